-- What the answers of the code stand for.
use Rattle.std.specs.Prelude.{ℕ, Result, Ok, Err}
use Rattle.kinds.specs.Reading.{Read, got, bad}
use Rattle.kinds.specs.declared.call.Header.{Header}
use Rattle.spec.specs.Checked.{Checked, refused, passed}
use Rattle.spec.specs.Rpc as Rpc
use Rattle.rpc.specs.declared.outcome.AcceptStat.{AcceptStat}
use Rattle.rpc.specs.declared.outcome.Program.{Program}

-- a number that no procedure has
abbrev pub no_procedure : ℕ
no_procedure = 22

-- the number of the procedure that a header names
abbrev pub named_procedure : Header → ℕ
named_procedure (Header.Call h) = h.procedure
named_procedure (Header.OtherVersion xid) = no_procedure

unfoldable pub procedure_of : Read Header → ℕ
procedure_of (got h p) = named_procedure h
procedure_of (bad p) = no_procedure

-- an accept_stat, or that the procedure runs
abbrev pub judged_of : Result (Unit {0}) AcceptStat → Checked (Unit {0})
judged_of (Ok x) = passed tt
judged_of (Err stat) = refused stat.0

abbrev pub program_of : Program → Rpc.Program
program_of p = record { number = p.number; lowest = p.lowest; highest = p.highest; last = p.last }
