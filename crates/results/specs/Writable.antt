-- What must hold of a store and a reply value so that the reply can be written from them.
use Rattle.std.specs.Prelude.{ℕ, ◌+◌, ◌-◌, ◌≤◌, ◌<◌, length, take, Option, Some, None}
use Rattle.kinds.specs.Numbers.{most_transfer_bytes, listing_cost}
use Rattle.kinds.specs.declared.numbers.ObjectNumber.{ObjectNumber}
use Rattle.spec.specs.Image.{Store, objects}
use Rattle.spec.specs.Room.{size_of}
use Rattle.spec.specs.Replies.{entries_bytes}
use Rattle.spec.specs.Procedures.Listing.{entries, entries_above}
use Rattle.laws.proofs.GoodRecords.{GoodRecords}
use Rattle.results.specs.declared.ObjectChange.{ObjectChange}
use Rattle.results.specs.declared.Reply.{Reply}

-- an object whose attributes, and whose handle, the store has
pub record Showable (s : Store) (o : ℕ) : Type 0 where
  pub good : GoodRecords s
  pub object : o < objects s

abbrev pub ShowableObject : Store → Option ObjectNumber → Type 0
ShowableObject s None = Unit {0}
ShowableObject s (Some o) = Showable s o.0

abbrev pub ShowableChange : Store → Option ObjectChange → Type 0
ShowableChange s None = Unit {0}
ShowableChange s (Some c) = Showable s c.object.0

-- n bytes of object o's file from an offset: at most as many as one READ moves, and at most as many as are left
pub record Readable (s : Store) (o offset n : ℕ) : Type 0 where
  pub good : GoodRecords s
  pub object : o < objects s
  pub few : n ≤ most_transfer_bytes
  pub left : n ≤ size_of s o - offset

-- the first `count` entries of directory d above a cookie: "The result body after the status costs 104 bytes plus 24 + padded name each",
-- at most 4,096
pub record Listable (s : Store) (d cookie count : ℕ) : Type 0 where
  pub good : GoodRecords s
  pub directory : d < objects s
  pub few : listing_cost + length (entries_bytes (take count (entries_above cookie (entries s d)))) ≤ most_transfer_bytes

-- what a reply value asks of the store that it is written from
abbrev pub Writable : Store → Reply → Type 0
Writable s Reply.Null = Unit {0}
Writable s (Reply.Dead status) = Unit {0}
Writable s (Reply.Failed status o) = Showable s o.0
Writable s (Reply.Changed status c) = Showable s c.object.0
Writable s (Reply.Renamed status c d) = ShowableChange s c × ShowableChange s d
Writable s (Reply.Linked status o c) = ShowableObject s o × ShowableChange s c
Writable s (Reply.GotAttributes o) = Showable s o.0
Writable s (Reply.Found o d) = Showable s o.0 × Showable s d.0
Writable s (Reply.Granted o bits) = Showable s o.0
Writable s (Reply.GotBytes o eof offset n) = Readable s o.0 offset n
Writable s (Reply.Wrote c count verifier) = Showable s c.object.0
Writable s (Reply.Created o d) = Showable s o.0 × Showable s d.object.0
Writable s (Reply.Listed d eof cookie n) = Listable s d.0 cookie n
Writable s (Reply.GotRoom o total free objects available) = Showable s o.0
Writable s (Reply.GotLimits o) = Showable s o.0
Writable s (Reply.GotNaming o) = Showable s o.0
Writable s (Reply.Committed c verifier) = Showable s c.object.0
