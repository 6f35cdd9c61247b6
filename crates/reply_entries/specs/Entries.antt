-- Entries of a listing as they are written: one at a time, and no more than are sent.
use Rattle.std.specs.Prelude.{ℕ, ◌+◌, ◌-◌, ◌≤◌, cond, List, [], ◌∷◌, ◌++◌, map, ◌≡◌, length, take}
use Rattle.kinds.specs.Numbers.{most_name_bytes}
use Rattle.spec.specs.Bytes.{part, padding, zeros}
use Rattle.spec.specs.Image.{Store}
use Rattle.spec.specs.Room.{is_in}
use Rattle.spec.specs.Results.{Entry}
use Rattle.spec.specs.Replies.{entries_bytes}
use Rattle.spec.specs.Procedures.Listing.{entry_of}
use Rattle.laws.proofs.Range.{Below}
use Rattle.xdr.specs.Wrote.{Wrote}
use Rattle.reply_entries.specs.declared.Place.{Place}

abbrev pub entry : ℕ → List ℕ → ℕ → Entry
entry fileid name cookie = record { fileid = fileid; name = name; cookie = cookie }

-- the entries of "." and ".." in directory d, whose parent is p
abbrev pub dots : ℕ → ℕ → List Entry
dots d p = entry (d + 1) (0x2E ∷ []) 1 ∷ entry (p + 1) (0x2E ∷ 0x2E ∷ []) 2 ∷ []

-- the entry that name record n has in directory d, or none
abbrev pub entry_in : Store → ℕ → ℕ → List Entry
entry_in s d n = map (entry_of s) (cond (is_in s d n) (n ∷ []) [])

-- b holds a name of n bytes from index from, and after it the zeros that pad it
pub record PaddedName (b : List ℕ) (from n : ℕ) : Type 0 where
  pub bytes : Below 256 b
  pub short : n ≤ most_name_bytes
  pub inside : from + (n + padding n) ≤ length b
  pub padded : part b from (n + padding n) ≡ part b from n ++ zeros (padding n)

-- of the entries es as many as may be sent were written at a place; the place after them has what is left
pub record WroteEntries (es : List Entry) (before after : List ℕ) (p q : Place) : Type 0 where
  pub wrote : Wrote (length (entries_bytes (take p.left es))) before after p.at q.at (entries_bytes (take p.left es))
  pub left : q.left ≡ p.left - length es
