-- The arguments after a header.
use Rattle.std.specs.Prelude.{ℕ, List}
use Rattle.kinds.specs.Reading.{Read, place_of}
use Rattle.kinds.specs.declared.call.Header.{Header}
use Rattle.kinds.specs.declared.call.Arguments.{Arguments}
use Rattle.spec.specs.Arguments.{arguments}
use Rattle.rpc.specs.Meaning.{procedure_of}

-- those of the procedure that the header names, read where the header ends
abbrev pub arguments_after : List ℕ → Read Header → Read Arguments
arguments_after call h = arguments (procedure_of h) call (place_of h)
