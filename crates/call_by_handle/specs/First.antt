-- The procedures whose arguments begin with a handle.
use Rattle.std.specs.Prelude.{ℕ}
use Rattle.spec.specs.Arguments.{Form, none, handle_then, name_then, unread, form}

abbrev pub ByHandle : Form → Type 0
ByHandle none = ⊥
ByHandle (handle_then rest) = Unit {0}
ByHandle (name_then rest) = ⊥
ByHandle unread = ⊥

abbrev pub HandleFirst : ℕ → Type 0
HandleFirst p = ByHandle (form p)
