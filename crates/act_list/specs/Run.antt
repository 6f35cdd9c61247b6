-- The run of a listing that fits, entry by entry.
use Rattle.std.specs.Prelude.{Result, Ok, Err, ℕ, ◌+◌, ◌-◌, eqb, leb, ltb, length, take, Bool, true, false, cond, List, [], ◌∷◌}
use Rattle.kinds.specs.Layout.{length_offset}
use Rattle.kinds.specs.Numbers.{entry_fixed_cost}
use Rattle.kinds.specs.declared.numbers.Status.{Status}
use Rattle.spec.specs.Bytes.{be_at, padding}
use Rattle.spec.specs.Checked.{Checked, refused, passed}
use Rattle.spec.specs.Image.{Store}
use Rattle.spec.specs.Results.{Entry}
use Rattle.act_list.specs.declared.Run.{Run}

-- what an entry costs, by the length of its name
abbrev pub cost : ℕ → ℕ
cost long = entry_fixed_cost + (long + padding long)

-- a run of `count` entries that has not ended, with room left
abbrev pub open_run : ℕ → ℕ → Run
open_run room count = record { room = room; count = count; full = false }

-- the length of the name of the record that starts at `at`; 0 where the record is not in directory d
abbrev pub length_in : Store → ℕ → ℕ → ℕ
length_in s at d = cond (eqb (be_at s at 4) d) (be_at s (at + length_offset) 4) 0

-- a run that has not ended, with one entry more where it fits
unfoldable pub fitted : Run → ℕ → Run
fitted run long =
    cond (leb (cost long) run.room) (record { room = run.room - cost long; count = run.count + 1; full = false })
    (record { room = run.room; count = run.count; full = true })

-- a run after an entry, by its cookie and the length of its name
unfoldable pub extended : ℕ → Run → ℕ → ℕ → Run
extended given run cookie long = cond (ltb given cookie) (cond run.full run (fitted run long)) run

unfoldable pub run_of : ℕ → Run → List Entry → Run
run_of given run [] = run
run_of given run (e ∷ es) = run_of given (extended given run e.cookie (length e.name)) es

-- what an answer sends of entries, and whether nothing remains
abbrev pub listing_of : List Entry → Result (ℕ × Bool) Status → Checked (List Entry × Bool)
listing_of es (Ok (n, all)) = passed (take n es, all)
listing_of es (Err status) = refused status.0
