-- From what was found to the answer of the entry. Assumes nothing.
use mathlib.Core.Path.{◌≡◌, refl}
use mathlib.Core.List.{List}
use Prim.Native.Nat.{ℕ}
use Rattle.kinds.specs.declared.numbers.Answer.{Answer}
use Rattle.kinds.specs.declared.numbers.Fault.{Fault}
use Rattle.mount_spec.specs.Serve.{MountOutcome, MountSent, refuse_mount, send_mount}
use Rattle.mount_spec.specs.Table.{Table}
use Rattle.mount3.specs.Answers.{ServesMount}
use Rattle.mount3.specs.Sends.{SendsMount}

-- a call that is refused changes nothing
pub serves_refused : (o : MountOutcome) (f : Fault) (space : List ℕ) (t : Table) → o ≡ refuse_mount f space t
    → ServesMount o (record { number = f.number; length = 0; offset = f.offset }) space t
serves_refused o f space t e = rw e (record { number = refl; length = refl; offset = refl; space = refl; leaves = refl })

-- a call that is answered
pub serves_sent : (o : MountOutcome) (m : MountSent) (r : Answer) (space after : List ℕ) (left : Table) → o ≡ send_mount space m
    → SendsMount m r space after left → ServesMount o r after left
serves_sent o m r space after left e w =
    rw e (record { number = w.number; length = w.length; offset = w.offset; space = w.space; leaves = w.table })
