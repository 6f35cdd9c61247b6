-- READDIR.
use Rattle.std.specs.Prelude.{ℕ, ◌+◌, ◌-◌, min, eqb, leb, ltb, length, Bool, true, false, ◌&&◌, not, cond, List, [], ◌∷◌, ◌++◌, map}
use Rattle.kinds.specs.Numbers.{BAD_COOKIE, TOOSMALL, most_transfer_bytes, listing_cost, entry_fixed_cost}
use Rattle.spec.specs.Bytes.{padding}
use Rattle.spec.specs.Checked.{Checked, ◌>>=◌, ◌>>◌, refuse_if, passed}
use Rattle.spec.specs.Count.{passing}
use Rattle.spec.specs.Handles.{reach_directory, attributes}
use Rattle.spec.specs.Image.{Store, names, name_at}
use Rattle.spec.specs.Results.{Entry, Done, unchanged, fail_showing, settle, listed}
use Rattle.spec.specs.Room.{is_in, parent}

-- "name record s has s + 3"
unfoldable pub entry_of : Store → ℕ → Entry
entry_of s n = record { fileid = (name_at s n).child + 1; name = (name_at s n).text; cookie = n + 3 }

-- ""." has cookie 1, ".." 2"
unfoldable pub dot_entries : Store → ℕ → List Entry
dot_entries s d =
    record { fileid = d + 1; name = 0x2E ∷ []; cookie = 1 } ∷ record { fileid = parent s d + 1; name = 0x2E ∷ 0x2E ∷ []; cookie = 2 } ∷ []

-- the entries that the name records below n have in directory d
abbrev pub named_entries : Store → ℕ → ℕ → List Entry
named_entries s d n = map (entry_of s) (passing n (is_in s d))

unfoldable pub entries : Store → ℕ → List Entry
entries s d = dot_entries s d ++ named_entries s d (names s)

-- "those above the given cookie, ascending"
unfoldable pub entries_above : ℕ → List Entry → List Entry
entries_above cookie [] = []
entries_above cookie (e ∷ es) = cond (ltb cookie e.cookie) (e ∷ entries_above cookie es) (entries_above cookie es)

-- what an entry costs beside its padded name, and what a listing costs beside its entries: "The result body after the status costs 104
-- bytes plus 24 + padded name each"
abbrev pub entry_cost : ℕ → Entry → ℕ
entry_cost each e = each + (length e.name + padding (length e.name))

-- "the longest run within min(count, 4096) is sent"
unfoldable pub fitting : ℕ → ℕ → List Entry → List Entry
fitting each room [] = []
fitting each room (e ∷ es) = cond (leb (entry_cost each e) room) (e ∷ fitting each (room - entry_cost each e) es) []

abbrev pub is_nothing : List Entry → Bool
is_nothing [] = true
is_nothing (e ∷ es) = false

-- "TOOSMALL if 104 doesn't fit, or something remains and its first doesn't."; "eof when nothing remains": the run that is sent, and eof
unfoldable pub check_listing : ℕ → ℕ → ℕ → List Entry → Checked (List Entry × Bool)
check_listing head each limit es = do
  refuse_if (ltb limit head) TOOSMALL
  refuse_if (not (is_nothing es) && is_nothing (fitting each (limit - head) es)) TOOSMALL
  passed (fitting each (limit - head) es, eqb (length (fitting each (limit - head) es)) (length es))

-- what READDIR checks in directory d: "verifier not zero, BAD_COOKIE"; the run, and eof
unfoldable pub check_readdir_in : Store → ℕ → ℕ → ℕ → ℕ → Checked (List Entry × Bool)
check_readdir_in s d cookie verifier count = do
  refuse_if (not (eqb verifier 0)) BAD_COOKIE
  check_listing listing_cost entry_fixed_cost (min count most_transfer_bytes) (entries_above cookie (entries s d))

-- the directory, the run, and eof
unfoldable pub check_readdir : Store → List ℕ → ℕ → ℕ → ℕ → Checked (ℕ × List Entry × Bool)
check_readdir s h cookie verifier count = do
  d ← reach_directory s h
  p ← check_readdir_in s d cookie verifier count
  passed (d, p.0, p.1)

unfoldable pub readdir : Store → List ℕ → ℕ → ℕ → ℕ → Done
readdir s h cookie verifier count =
    settle s (fail_showing s h) (check_readdir s h cookie verifier count) (λ p. unchanged s (listed (attributes s p.0) p.1 p.2))
