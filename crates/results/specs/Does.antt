-- What an act owes.
use Rattle.std.specs.Prelude.{◌≡◌}
use Rattle.spec.specs.Image.{Store}
use Rattle.spec.specs.Results.{Done}
use Rattle.results.specs.Meaning.{result_of}
use Rattle.results.specs.Writable.{Writable}
use Rattle.results.specs.declared.Reply.{Reply}

-- its result, the store that it leaves, and a reply that can be written from that store
pub record Does (d : Done) (r : Reply) (t : Store) : Type 0 where
  pub result : result_of t r ≡ d.result
  pub store : t ≡ d.store
  pub writable : Writable t r
