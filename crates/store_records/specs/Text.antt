-- A name that a call holds as a part of its bytes.
use Rattle.std.specs.Prelude.{ℕ, List}
use Rattle.kinds.specs.declared.call.Part.{Part}
use Rattle.spec.specs.Bytes.{part}
use Rattle.spec.specs.Image.{Name}

-- the bytes of the call that a part covers
abbrev pub text_of : List ℕ → Part → List ℕ
text_of call p = part call p.start p.length

-- the name record of `text` for object c in directory d
abbrev pub name_of : ℕ → ℕ → List ℕ → Name
name_of d c text = record { directory = d; child = c; text = text }
