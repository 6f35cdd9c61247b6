-- WRITEs of one file, one after the other.
use Rattle.std.specs.Prelude.{ℕ, List, [], ◌∷◌}
use Rattle.kinds.specs.declared.object.Context.{Context}
use Rattle.spec.specs.Image.{Store}
use Rattle.spec.specs.Procedures.Data.{write_store}
use Rattle.laws_contents.specs.Written.{Write}

-- a write, with the clock and the verifier of its call
pub record SentWrite : Type 0 where
  pub context : Context
  pub write : Write

-- the store after one write
abbrev pub send_to : Store → ℕ → SentWrite → Store
send_to s o x = write_store s x.context o x.write.offset x.write.bytes

-- the store after several, the first of the list first
unfoldable pub write_all : Store → ℕ → List SentWrite → Store
write_all s o [] = s
write_all s o (x ∷ xs) = write_all (send_to s o x) o xs

-- the writes alone
unfoldable pub writes_of : List SentWrite → List Write
writes_of [] = []
writes_of (x ∷ xs) = x.write ∷ writes_of xs
