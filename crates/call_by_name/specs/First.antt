-- The procedures whose arguments begin with a name in a directory.
use Rattle.std.specs.Prelude.{ℕ}
use Rattle.spec.specs.Arguments.{Form, none, handle_then, name_then, unread, form}

abbrev pub ByName : Form → Type 0
ByName none = ⊥
ByName (handle_then rest) = ⊥
ByName (name_then rest) = Unit {0}
ByName unread = ⊥

abbrev pub NameFirst : ℕ → Type 0
NameFirst p = ByName (form p)
