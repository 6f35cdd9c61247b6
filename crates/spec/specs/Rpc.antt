-- The outcomes of a call before its procedure runs, and the heads of replies (RFC 5531 section 9).
use Rattle.std.specs.Prelude.{ℕ, List, [], ◌∷◌, ◌++◌, ◌||◌, not, cond, eqb, ltb}
use Rattle.kinds.specs.declared.call.CallHeader.{CallHeader}
use Rattle.spec.specs.Bytes.{words}
use Rattle.spec.specs.Checked.{Checked, ◌>>◌, refuse_if}

-- rejected_reply: xid, REPLY, MSG_DENIED, "RPC_MISMATCH 2 2"
unfoldable pub denied : ℕ → List ℕ
denied xid = words (xid ∷ 1 ∷ 1 ∷ 0 ∷ 2 ∷ 2 ∷ [])

-- accepted_reply: xid, REPLY, MSG_ACCEPTED, "Reply verifiers are flavor 0, length 0", accept_stat
abbrev pub head : ℕ → ℕ → List ℕ
head xid stat = words (xid ∷ 1 ∷ 0 ∷ 0 ∷ 0 ∷ stat ∷ [])

-- and what follows it
unfoldable pub accepted : ℕ → ℕ → List ℕ → List ℕ
accepted xid stat body = head xid stat ++ body

-- a program: its number, its lowest and highest version, and its last procedure
pub record Program : Type 0 where
  pub number : ℕ
  pub lowest : ℕ
  pub highest : ℕ
  pub last : ℕ

-- "program not 100003, PROG_UNAVAIL; version not 3, PROG_MISMATCH 3 3; procedure over 21, PROC_UNAVAIL"
abbrev pub nfs : Program
nfs = record { number = 100003; lowest = 3; highest = 3; last = 21 }

-- the accept_stat numbers
abbrev pub SUCCESS : ℕ
SUCCESS = 0

abbrev pub PROG_UNAVAIL : ℕ
PROG_UNAVAIL = 1

abbrev pub PROG_MISMATCH : ℕ
PROG_MISMATCH = 2

abbrev pub PROC_UNAVAIL : ℕ
PROC_UNAVAIL = 3

abbrev pub GARBAGE_ARGS : ℕ
GARBAGE_ARGS = 4

-- whether a procedure runs, or the accept_stat
unfoldable pub judge : Program → CallHeader → Checked (Unit {0})
judge p h = do
  refuse_if (not (eqb h.program p.number)) PROG_UNAVAIL
  refuse_if (ltb h.version p.lowest || ltb p.highest h.version) PROG_MISMATCH
  refuse_if (ltb p.last h.procedure) PROC_UNAVAIL

-- what follows an accept_stat other than SUCCESS: PROG_MISMATCH has the lowest and the highest version
unfoldable pub mismatch : Program → ℕ → List ℕ
mismatch p stat = cond (eqb stat PROG_MISMATCH) (words (p.lowest ∷ p.highest ∷ [])) []
