-- DEMAND 3: what holds of the store and of the book after any list of requests from any successful format. `Kept` is the statement; the
-- definitions above it are its words. Each field quotes the sentence of document 01 or 02, or of demand 3 as it was asked, that it says.
use Rattle.std.specs.Prelude.{ℕ, suc, ◌+◌, ◌*◌, ◌-◌, ◌≤◌, ◌<◌, min, max, ◌≡◌, ◌⊎◌, ◌↔◌, Bool, true, false, ◌&&◌, ◌||◌, not, eqb, length, get_or, Option}
use mathlib.Core.List.{List, [], ◌∷◌, Memᴰ}
use Rattle.std.proofs.Math.Option.{some}
use Rattle.kinds.specs.Layout.{block_length}
use Rattle.kinds.specs.Numbers.{NOSPC, MLINK, STALE, REGULAR, DIRECTORY, least_reply_bytes, most_call_bytes, nanoseconds_end, most_file_bytes}
use Rattle.kinds.specs.Numbers.{most_transfer_bytes, most_links}
use Rattle.kinds.specs.declared.object.Time.{Time}
use Rattle.kinds.specs.declared.call.Part.{Part}
use Rattle.kinds.specs.declared.call.NameIn.{NameIn}
use Rattle.kinds.specs.declared.call.Settable.{Settable}
use Rattle.kinds.specs.declared.call.How.{How}
use Rattle.kinds.specs.declared.call.How.TheVariants as How
use Rattle.kinds.specs.declared.call.Arguments.{Arguments}
use Rattle.kinds.specs.declared.call.Arguments.TheVariants as Call
use Rattle.spec.specs.Bytes.{be_at, same_bytes}
use Rattle.spec.specs.Count.{bit, sum, count}
use Rattle.spec.specs.Image.{Store, stamp, objects, names, blocks, object_at, name_at}
use Rattle.spec.specs.Room.{is_live, is_regular, is_directory, is_used_name, namings, size_of, need, free_name_count}
use Rattle.spec.specs.Check.{passes}
use Rattle.spec.specs.Handles.{handle_of, reach, check_name}
use Rattle.spec.specs.Names.{is_dots}
use Rattle.spec.specs.Checked.{passed}
use Rattle.spec.specs.Procedures.{cut}
use Rattle.spec.specs.Procedures.Attributes.{is_given, size_set, bad_attributes, differs}
use Rattle.spec.specs.Procedures.Names.{is_made_by}
use Rattle.spec.specs.Serve.{format}
use Rattle.history.specs.Book.{Standing, as_root, under, Line, Book, Ledger, handle_bytes, first_ledger, some_at, asked, is_status, is_ok}
use Rattle.history.specs.Book.{found_handle, made_handle}
use Rattle.history.specs.Run.{Request, Lent, AllLent, reply_to, State, step, run}

-- ---- THE WORDS OF THE STATEMENT
-- ---- lines, and what the store has of them
-- x is a member of a list
abbrev pub In : {A : Type 0} → A → List A → Type 0
In x xs = Memᴰ x xs

-- handle h has a line, of a type
abbrev pub HasLine : Book → List ℕ → ℕ → Type 0
HasLine b h kind = (l : Line) × In l b × (l.handle ≡ h) × (l.kind ≡ kind)

-- the name `text` in the directory with handle d has a line, with handle h
abbrev pub HasName : Book → List ℕ → List ℕ → List ℕ → Type 0
HasName b d h text = (l : Line) × In l b × (l.handle ≡ h) × (l.standing ≡ under d text)

-- how many lines have the handle h
unfoldable pub lines_of : List ℕ → Book → ℕ
lines_of h [] = 0
lines_of h (l ∷ ls) = bit (same_bytes l.handle h) + lines_of h ls

-- h is "removed": it was given out, and no line has it
abbrev pub IsRemoved : Ledger → List ℕ → Type 0
IsRemoved L h = In h L.given × ((kind : ℕ) → HasLine L.book h kind → ⊥)

-- E7: "frees the object only with its last name": h has one line less, is removed with the last one, and has a line where it had more
pub record LosesName (L M : Ledger) (h : List ℕ) : Type 0 where
  pub one_less : lines_of h L.book ≡ suc (lines_of h M.book)
  pub last_name : lines_of h L.book ≡ 1 → IsRemoved M h
  pub other_name : 1 < lines_of h L.book → (kind : ℕ) × HasLine M.book h kind

-- the store has a live object with that handle and type
abbrev pub StoredObject : Store → List ℕ → ℕ → Type 0
StoredObject s h kind = (o : ℕ) × (o < objects s) × (is_live s o ≡ true) × (handle_of s o ≡ h) × ((object_at s o).kind ≡ kind)

-- the store has a used name with that directory's handle, child's handle and name
abbrev pub StoredName : Store → List ℕ → List ℕ → List ℕ → Type 0
StoredName s d h text =
    (n : ℕ) × (n < names s) × (is_used_name s n ≡ true)
    × (handle_of s (name_at s n).directory ≡ d) × (handle_of s (name_at s n).child ≡ h) × ((name_at s n).text ≡ text)

-- a path of stored names, from object o up to the root: each record names the object, or the directory of the record before
abbrev pub StoredPath : Store → ℕ → List ℕ → Type 0
StoredPath s o [] = o ≡ 0
StoredPath s o (n ∷ ns) = ((n < names s) × (is_used_name s n ≡ true) × ((name_at s n).child ≡ o)) × StoredPath s (name_at s n).directory ns

-- "A path leads from line to line, each in the directory before; the root's is empty.": read from the handle h up to the root
abbrev pub BookPath : Book → List ℕ → List Line → Type 0
BookPath b h [] = (l : Line) × In l b × (l.handle ≡ h) × (l.standing ≡ as_root)
BookPath b h (l ∷ ls) = In l b × (l.handle ≡ h) × ((d : List ℕ) × (text : List ℕ) × (l.standing ≡ under d text) × BookPath b d ls)

-- no line stands twice: none after a line has the standing that it has
abbrev pub StandApart : Book → Type 0
StandApart [] = Unit {0}
StandApart (l ∷ ls) = ((k : Line) → In k ls → k.standing ≡ l.standing → ⊥) × StandApart ls

-- the handle h names record o of the store: the record is live, with this generation and type, and a call that gives h reaches it
pub record Names (s : Store) (h : List ℕ) (o generation kind : ℕ) : Type 0 where
  pub below : o < objects s
  pub live : is_live s o ≡ true
  pub same_generation : (object_at s o).generation ≡ generation
  pub same_type : (object_at s o).kind ≡ kind
  pub reached : reach s h ≡ passed o

-- how many objects are live
unfoldable pub live_objects : Store → ℕ
live_objects s = count (objects s) (is_live s)

-- ---- requests and replies
-- the request passes every check before its procedure's (the answers 2, 3 and 4; 1 does not come, and 5, 7, 8 and 9, the RPC outcomes and
-- GARBAGE_ARGS are what `asked` rules out), and is read as a call with these arguments
pub record Asks (x : Request) (a : Arguments) : Type 0 where
  pub space : least_reply_bytes ≤ length x.space
  pub clock : x.context.clock.nanoseconds < nanoseconds_end
  pub short : length x.call ≤ most_call_bytes
  pub reads : asked x.call ≡ some a

-- the handle in an OK reply to LOOKUP, CREATE or MKDIR
pub data Carries (x : Request) (reply : List ℕ) : List ℕ → Type 0 where
  lookup : (p : NameIn) → asked x.call ≡ some (Call.Lookup p) → Carries x reply (found_handle reply)
  create : (p : NameIn) (manner : How) → asked x.call ≡ some (Call.Create p manner) → Carries x reply (made_handle reply)
  mkdir : (p : NameIn) (a : Settable) → asked x.call ≡ some (Call.Mkdir p a) → Carries x reply (made_handle reply)

-- CREATE and MKDIR
pub data Makes (x : Request) : Type 0 where
  makes_file : (p : NameIn) (manner : How) → asked x.call ≡ some (Call.Create p manner) → Makes x
  makes_directory : (p : NameIn) (a : Settable) → asked x.call ≡ some (Call.Mkdir p a) → Makes x

-- REMOVE and RMDIR of a name
pub data Removes (x : Request) (p : NameIn) : Type 0 where
  removes_file : asked x.call ≡ some (Call.Remove p) → Removes x p
  removes_directory : asked x.call ≡ some (Call.Rmdir p) → Removes x p

-- what replies show: GETATTR's type, links and size; FSSTAT's total bytes, free bytes twice, objects, and available objects twice
abbrev pub shown_kind : List ℕ → ℕ
shown_kind reply = be_at reply 28 4

abbrev pub shown_links : List ℕ → ℕ
shown_links reply = be_at reply 36 4

abbrev pub shown_size : List ℕ → ℕ
shown_size reply = be_at reply 48 8

abbrev pub shown_total : List ℕ → ℕ
shown_total reply = be_at reply 116 8

abbrev pub shown_free : List ℕ → ℕ
shown_free reply = be_at reply 124 8

abbrev pub shown_free_again : List ℕ → ℕ
shown_free_again reply = be_at reply 132 8

abbrev pub shown_objects : List ℕ → ℕ
shown_objects reply = be_at reply 140 8

abbrev pub shown_available : List ℕ → ℕ
shown_available reply = be_at reply 148 8

abbrev pub shown_available_again : List ℕ → ℕ
shown_available_again reply = be_at reply 156 8

-- ---- what is counted, by the book
-- some line passes a test
unfoldable pub some_line : (Line → Bool) → Book → Bool
some_line test [] = false
some_line test (l ∷ ls) = test l || some_line test ls

-- the object of a handle
abbrev pub object_in : List ℕ → ℕ
object_in h = be_at h 4 4

-- record o is a live object, and a live file, by the book: a line has a handle of it. However many lines have one, it is one object
abbrev pub is_lined_object : Book → ℕ → Bool
is_lined_object b o = some_line (λ l. eqb (object_in l.handle) o) b

abbrev pub is_lined_file : Book → ℕ → Bool
is_lined_file b o = some_line (λ l. eqb (object_in l.handle) o && eqb l.kind REGULAR) b

-- how many of the p records are live objects, by the book
unfoldable pub lined_objects : ℕ → Book → ℕ
lined_objects p b = count p (is_lined_object b)

-- the places, a term that document 01 coins: "A place is one of a live file's ceil(size/512) blocks, size as GETATTR answers.". How many there
-- are, by the book's files; that the sizes are those that GETATTR answers is the field `sizes`
unfoldable pub places_in : ℕ → Store → Book → ℕ
places_in p s b = sum p (λ o. bit (is_lined_file b o) * need (size_of s o))

-- "the lines with a name"
abbrev pub has_name : Standing → Bool
has_name as_root = false
has_name (under d text) = true

unfoldable pub named_lines : Book → ℕ
named_lines [] = 0
named_lines (l ∷ ls) = bit (has_name l.standing) + named_lines ls

-- "the records whose handle of generation 4,294,967,294 was removed"
unfoldable pub is_among : List ℕ → List (List ℕ) → Bool
is_among h [] = false
is_among h (g ∷ gs) = same_bytes g h || is_among h gs

abbrev pub is_lined : List ℕ → Book → Bool
is_lined h b = some_line (λ l. same_bytes l.handle h) b

abbrev pub last_handle : ℕ → ℕ → List ℕ
last_handle stamp o = handle_bytes stamp o 4294967294

unfoldable pub spent_records : ℕ → ℕ → Ledger → ℕ
spent_records stamp p L = count p (λ o. is_among (last_handle stamp o) L.given && not (is_lined (last_handle stamp o) L.book))

-- ---- room
-- the room that is left, by the book
abbrev pub blocks_left : ℕ → ℕ → Store → Ledger → ℕ
blocks_left p r s L = r - places_in p s L.book

abbrev pub names_left : ℕ → Ledger → ℕ
names_left q L = q - named_lines L.book

abbrev pub objects_left : ℕ → ℕ → Ledger → ℕ
objects_left σ p L = p - (lined_objects p L.book + spent_records σ p L)

-- what room can be asked for: the blocks for a file to go from one size to another; a new object of a size, with its name and its blocks; or a name
pub data Room : Type 0 where
  growth : ℕ → ℕ → Room
  new_object : ℕ → Room
  new_name : Room

-- that room is missing. "NOSPC for a new object: no available object, no free name, or too few blocks for its size."; E7: "NOSPC without a free name"
abbrev pub Missing : ℕ → ℕ → ℕ → ℕ → State → Room → Type 0
Missing σ p q r w (growth old size) = blocks_left p r w.store w.ledger < need size - need old
Missing σ p q r w (new_object size) =
    (objects_left σ p w.ledger ≡ 0) ⊎ ((names_left q w.ledger ≡ 0) ⊎ (blocks_left p r w.store w.ledger < need size))
Missing σ p q r w new_name = names_left q w.ledger ≡ 0

-- the size of the object that a handle names; that it is the size which GETATTR answers is the field `sizes`
abbrev pub size_in : State → List ℕ → ℕ
size_in w h = size_of w.store (object_in h)

-- the bytes of the call from which it takes the directory's handle, and those from which it takes the name
abbrev pub directory_in : Request → NameIn → List ℕ
directory_in x p = cut x.call p.directory

abbrev pub name_asked : Request → NameIn → List ℕ
name_asked x p = cut x.call p.name

-- the earlier checks of a name to be made: the directory is live and a directory; the name may be had; the attributes are not `invalid`
pub record MayMake (b : Book) (x : Request) (p : NameIn) (invalid : Bool) : Type 0 where
  pub in_directory : HasLine b (directory_in x p) DIRECTORY
  pub good_name : check_name (name_asked x p) ≡ passed tt
  pub no_dots : is_dots (name_asked x p) ≡ false
  pub valid : invalid ≡ false

-- the checks of LINK before MLINK. E7: "source handle, INVAL if a directory, directory handle, NOTDIR, then the name checks ("." or ".." EXIST), EXIST"
pub record MayLink (b : Book) (x : Request) (h : Part) (p : NameIn) : Type 0 where
  pub file : HasLine b (cut x.call h) REGULAR
  pub place : MayMake b x p false
  pub free_name : some_at (directory_in x p) (name_asked x p) b ≡ false

-- "The earlier checks are those these papers name": the request passes those of its procedure, and asks for this room. Handles and names
-- are looked for in the book; only the guard's ctime and the sizes are the store's
pub data AsksRoom (w : State) (x : Request) : Room → Type 0 where
  -- SETATTR of a live handle, no size of a directory: the size that it gives, or the old one
  by_setattr : (h : Part) (a : Settable) (g : Option Time) (kind : ℕ) → Asks x (Call.Setattr h a g)
      → HasLine w.ledger.book (cut x.call h) kind
      → differs g (object_at w.store (object_in (cut x.call h))).ctime ≡ false
      → bad_attributes a ≡ false → is_given a.size && eqb kind DIRECTORY ≡ false
      → AsksRoom w x (growth (size_in w (cut x.call h)) (size_set a.size (size_in w (cut x.call h))))
  -- WRITE of some bytes to a live file, that end within 8,192: the greater of its size and their end
  by_write : (h : Part) (offset n : ℕ) (bytes : Part) → Asks x (Call.Write h offset n bytes)
      → HasLine w.ledger.book (cut x.call h) REGULAR → n ≡ length (cut x.call bytes)
      → 0 < n → offset + min n most_transfer_bytes ≤ most_file_bytes
      → AsksRoom w x (growth (size_in w (cut x.call h)) (max (size_in w (cut x.call h)) (offset + min n most_transfer_bytes)))
  -- CREATE, UNCHECKED or GUARDED, where no line has that directory handle and name
  by_create : (p : NameIn) (manner : How) (a : Settable) → Asks x (Call.Create p manner)
      → (manner ≡ How.Unchecked a) ⊎ (manner ≡ How.Guarded a)
      → MayMake w.ledger.book x p (bad_attributes a) → some_at (directory_in x p) (name_asked x p) w.ledger.book ≡ false
      → AsksRoom w x (new_object (size_set a.size 0))
  -- CREATE, EXCLUSIVE, where no line has them: "an absent name is made with unset attributes", so an object and a name, and no block
  by_exclusive : (p : NameIn) (verifier : ℕ) → Asks x (Call.Create p (How.Exclusive verifier))
      → MayMake w.ledger.book x p false → some_at (directory_in x p) (name_asked x p) w.ledger.book ≡ false
      → AsksRoom w x (new_object 0)
  -- CREATE, UNCHECKED, where a file's line has them: the size that it gives, or the old one
  by_recreate : (p : NameIn) (a : Settable) (h : List ℕ) → Asks x (Call.Create p (How.Unchecked a))
      → MayMake w.ledger.book x p (bad_attributes a) → HasName w.ledger.book (directory_in x p) h (name_asked x p) → HasLine w.ledger.book h REGULAR
      → AsksRoom w x (growth (size_in w h) (size_set a.size (size_in w h)))
  -- MKDIR without a size, where no line has them
  by_mkdir : (p : NameIn) (a : Settable) → Asks x (Call.Mkdir p a)
      → MayMake w.ledger.book x p (bad_attributes a || is_given a.size) → some_at (directory_in x p) (name_asked x p) w.ledger.book ≡ false
      → AsksRoom w x (new_object 0)
  -- LINK of a file with fewer than 16 lines: a name, and neither object nor block
  by_link : (h : Part) (p : NameIn) → Asks x (Call.Link h p) → MayLink w.ledger.book x h p
      → lines_of (cut x.call h) w.ledger.book < most_links
      → AsksRoom w x new_name

-- NOSPC exactly where the room is missing; OK where it is not
pub record AnswersRoom (reply : List ℕ) (missing : Type 0) : Type 0 where
  pub nospc : (is_status NOSPC reply ≡ true) ↔ missing
  pub ok : (missing → ⊥) → is_ok reply ≡ true

-- ---- THE STATEMENT
-- the stamp σ and the counts p, q and r that format was given, and the state after any list of requests
pub record Kept (σ p q r : ℕ) (w : State) : Type 0 where
  -- ---- 1. THE CHECK
  -- after the list the store passes its check; stamp and counts are the format's
  pub check : passes w.store ≡ true
  pub mark : stamp w.store ≡ σ
  pub object_count : objects w.store ≡ p
  pub name_count : names w.store ≡ q
  pub block_count : blocks w.store ≡ r
  -- ---- 2. THE BOOK'S LINES
  -- "The store's live objects (handle, type) and used names (directory's handle, child's handle, name) are exactly the book's."
  pub object_lines : (h : List ℕ) (kind : ℕ) → StoredObject w.store h kind ↔ HasLine w.ledger.book h kind
  pub name_lines : (d h text : List ℕ) → StoredName w.store d h text ↔ HasName w.ledger.book d h text
  -- no line stands twice: no two have the same directory handle and name, or are the root's
  pub line_once : StandApart w.ledger.book
  -- as many records have a line as are live, and as many lines have a name as names are used
  pub line_count : lined_objects p w.ledger.book ≡ live_objects w.store
  pub name_line_count : named_lines w.ledger.book ≡ count (names w.store) (is_used_name w.store)
  -- "A handle is given out once it has a line"
  pub line_given : (h : List ℕ) (kind : ℕ) → HasLine w.ledger.book h kind → In h w.ledger.given
  -- "A line added by CREATE or MKDIR is a new object's, its handle never given out before"
  pub added_line : (x : Request) → Lent x → Makes x → (l : Line) → (step w x).ledger.book ≡ l ∷ w.ledger.book → In l.handle w.ledger.given → ⊥
  -- E7: "a LINK answered OK adds a line to its book with the source's handle and type": the source is a file, no line has that directory handle and
  -- name, and no handle is given out
  pub linked_line : (x : Request) → Lent x → (h : Part) (p : NameIn) → asked x.call ≡ some (Call.Link h p) → is_ok (reply_to w.store x) ≡ true
      → HasLine w.ledger.book (cut x.call h) REGULAR
      × (some_at (directory_in x p) (name_asked x p) w.ledger.book ≡ false)
      × ((step w x).ledger.book
      ≡ record { handle = cut x.call h; kind = REGULAR; standing = under (directory_in x p) (name_asked x p) } ∷ w.ledger.book)
      × ((step w x).ledger.given ≡ w.ledger.given)
  -- "REMOVE, RMDIR: such a line is struck."; E7: "REMOVE .. frees the object only with its last name"
  pub removed_name : (x : Request) → Lent x → (p : NameIn) (h : List ℕ) → Removes x p
      → HasName w.ledger.book (directory_in x p) h (name_asked x p) → is_ok (reply_to w.store x) ≡ true
      → LosesName w.ledger (step w x).ledger h
  -- "every handle in an OK reply has a line"
  pub handle_lined : (x : Request) → Lent x → (h : List ℕ) → is_ok (reply_to w.store x) ≡ true → Carries x (reply_to w.store x) h
      → (kind : ℕ) × HasLine (step w x).ledger.book h kind
  -- ---- 3. PATHS AND NAMES
  -- E7: "demand 3 reads "exactly one path" for directories": each has exactly one path of stored names from the root, of at most live objects less
  -- one steps, in the store
  pub stored_path : (o : ℕ) → o < objects w.store → is_directory w.store o ≡ true → (ns : List ℕ)
      × StoredPath w.store o ns × ((ms : List ℕ) → StoredPath w.store o ms → ms ≡ ns) × (suc (length ns) ≤ live_objects w.store)
  -- "A path leads from line to line, each in the directory before; the root's is empty.": and in the book
  pub book_path : (h : List ℕ) → HasLine w.ledger.book h DIRECTORY → (ls : List Line)
      × BookPath w.ledger.book h ls × ((ks : List Line) → BookPath w.ledger.book h ks → ks ≡ ls) × (suc (length ls) ≤ live_objects w.store)
  -- E7: "one per directory": a directory has one line, and so has the root
  pub directory_line : (h : List ℕ) → HasLine w.ledger.book h DIRECTORY → lines_of h w.ledger.book ≡ 1
  -- E7: ".. and "one to sixteen names" for files": so many names in the store, and so many lines in the book
  pub file_names : (o : ℕ) → o < objects w.store → is_regular w.store o ≡ true
      → (1 ≤ namings w.store o) × (namings w.store o ≤ most_links)
  pub file_lines : (h : List ℕ) → HasLine w.ledger.book h REGULAR
      → (1 ≤ lines_of h w.ledger.book) × (lines_of h w.ledger.book ≤ most_links)
  -- each name of any object has exactly one path, of at most live objects less one steps, in the store
  pub name_path : (n : ℕ) → n < names w.store → is_used_name w.store n ≡ true → (ns : List ℕ)
      × StoredPath w.store (name_at w.store n).child (n ∷ ns)
      × ((ms : List ℕ) → StoredPath w.store (name_at w.store n).child (n ∷ ms) → ms ≡ ns)
      × (suc (length (n ∷ ns)) ≤ live_objects w.store)
  -- and so has each line with a name, in the book
  pub line_path : (l : Line) → In l w.ledger.book → has_name l.standing ≡ true → (ls : List Line)
      × BookPath w.ledger.book l.handle (l ∷ ls)
      × ((ks : List Line) → BookPath w.ledger.book l.handle (l ∷ ks) → ks ≡ ls)
      × (suc (length (l ∷ ls)) ≤ live_objects w.store)
  -- E7: "A file's nlink counts its names": the links that GETATTR answers for a live file are its lines
  pub links : (x : Request) (h : Part) → Asks x (Call.Getattr h) → HasLine w.ledger.book (cut x.call h) REGULAR
      → shown_links (reply_to w.store x) ≡ lines_of (cut x.call h) w.ledger.book
  -- ---- 4. PLACES, FREE BLOCKS, OBJECTS AND NAMES
  -- "A place is one of a live file's ceil(size/512) blocks, size as GETATTR answers.": no block serves two places
  pub one_place : (i j k l : ℕ) → i < objects w.store → j < objects w.store
      → is_regular w.store i ≡ true → is_regular w.store j ≡ true
      → k < need (size_of w.store i) → l < need (size_of w.store j)
      → get_or (object_at w.store i).blocks k 0 ≡ get_or (object_at w.store j).blocks l 0 → (i ≡ j) × (k ≡ l)
  -- the size that GETATTR answers for a live file is that of its record
  pub sizes : (x : Request) (h : Part) → Asks x (Call.Getattr h) → HasLine w.ledger.book (cut x.call h) REGULAR
      → shown_size (reply_to w.store x) ≡ size_of w.store (object_in (cut x.call h))
  -- FSSTAT answers a live handle OK, with the format's total bytes and objects
  pub totals : (x : Request) (h : Part) (kind : ℕ) → Asks x (Call.Fsstat h) → HasLine w.ledger.book (cut x.call h) kind
      → (is_ok (reply_to w.store x) ≡ true)
      × (shown_total (reply_to w.store x) ≡ block_length * r)
      × (shown_objects (reply_to w.store x) ≡ p)
  -- "Free blocks are R less the places, FSSTAT's free bytes 512 times that"
  pub places_fit : places_in p w.store w.ledger.book ≤ r
  pub free_bytes : (x : Request) (h : Part) (kind : ℕ) → Asks x (Call.Fsstat h) → HasLine w.ledger.book (cut x.call h) kind
      → (shown_free (reply_to w.store x) ≡ block_length * blocks_left p r w.store w.ledger)
      × (shown_free_again (reply_to w.store x) ≡ block_length * blocks_left p r w.store w.ledger)
  -- "available objects P less the live ones and the records whose handle of generation 4,294,967,294 was removed"
  pub objects_fit : lined_objects p w.ledger.book + spent_records σ p w.ledger ≤ p
  pub available : (x : Request) (h : Part) (kind : ℕ) → Asks x (Call.Fsstat h) → HasLine w.ledger.book (cut x.call h) kind
      → (shown_available (reply_to w.store x) ≡ objects_left σ p w.ledger)
      × (shown_available_again (reply_to w.store x) ≡ objects_left σ p w.ledger)
  -- "free names Q less the lines with a name"
  pub names_fit : named_lines w.ledger.book ≤ q
  pub free_names : free_name_count w.store ≡ names_left q w.ledger
  -- ---- 5. HANDLES
  -- a handle that was given out stays so, after any further calls
  pub given_stays : (g : List ℕ) → In g w.ledger.given → (xs : List Request) → AllLent xs → In g (run w xs).ledger.given
  -- demand 3: "A handle given out names the same object until that is removed": one record, live with one generation and type in every state from
  -- this one up to any in which the handle still has a line
  pub same_object : (g : List ℕ) (kind : ℕ) → HasLine w.ledger.book g kind → (o : ℕ) × (generation : ℕ) × Names w.store g o generation kind
      × ((xs ys : List Request) → AllLent xs → AllLent ys → (later : ℕ) → HasLine (run (run w xs) ys).ledger.book g later
      → Names (run w xs).store g o generation kind)
  -- "Where no earlier check refuses, GETATTR answers a live handle OK with its type."
  pub live : (x : Request) (h : Part) (kind : ℕ) → Asks x (Call.Getattr h) → HasLine w.ledger.book (cut x.call h) kind
      → (is_ok (reply_to w.store x) ≡ true) × (shown_kind (reply_to w.store x) ≡ kind)
  -- once its line is gone GETATTR answers STALE after any further calls: "its object is live until no line has it, then removed"
  pub stale : (g : List ℕ) → IsRemoved w.ledger g → (xs : List Request) → AllLent xs
      → (x : Request) (h : Part) → Asks x (Call.Getattr h) → cut x.call h ≡ g → is_status STALE (reply_to (run w xs).store x) ≡ true
  -- and it never has another object's line again
  pub never_again : (g : List ℕ) → IsRemoved w.ledger g → (xs : List Request) → AllLent xs → (kind : ℕ) → HasLine (run w xs).ledger.book g kind → ⊥
  -- ---- 6. ROOM
  -- "a call that passes them, asks for room and has it is answered OK.", and where it is missing NOSPC
  pub room : (x : Request) (m : Room) → AsksRoom w x m → AnswersRoom (reply_to w.store x) (Missing σ p q r w m)
  -- and nowhere else. Demand 3: "NOSPC is answered exactly when the room document 01 counts is missing.": whatever request it answers asks for
  -- room, and that is missing
  pub only_room : (x : Request) → Lent x → is_status NOSPC (reply_to w.store x) ≡ true → (m : Room) × AsksRoom w x m × Missing σ p q r w m
  -- WRITE of 0 bytes to a live file asks for no room
  pub write_nothing : (x : Request) (h : Part) (offset : ℕ) (bytes : Part) → Asks x (Call.Write h offset 0 bytes)
      → HasLine w.ledger.book (cut x.call h) REGULAR → 0 ≡ length (cut x.call bytes) → is_ok (reply_to w.store x) ≡ true
  -- E7: "MLINK at 16 names": a LINK that passes the checks before is answered MLINK exactly where the source has 16 lines
  pub many_names : (x : Request) (h : Part) (p : NameIn) → Asks x (Call.Link h p) → MayLink w.ledger.book x h p
      → (is_status MLINK (reply_to w.store x) ≡ true) ↔ (lines_of (cut x.call h) w.ledger.book ≡ most_links)
  -- and nothing else is answered MLINK
  pub only_many_names : (x : Request) → Lent x → is_status MLINK (reply_to w.store x) ≡ true
      → (h : Part) × (p : NameIn) × Asks x (Call.Link h p) × MayLink w.ledger.book x h p
      × (lines_of (cut x.call h) w.ledger.book ≡ most_links)
  -- ---- 7. A CREATE THAT IS SENT AGAIN
  -- "where no line has that directory handle and name, one is added": a CREATE answered OK whose name has a line finds that line and adds none, in
  -- every manner, and the handle in its reply is the line's
  pub line_found : (x : Request) → Lent x → (p : NameIn) (manner : How) (h : List ℕ) → asked x.call ≡ some (Call.Create p manner)
      → HasName w.ledger.book (directory_in x p) h (name_asked x p) → is_ok (reply_to w.store x) ≡ true
      → (made_handle (reply_to w.store x) ≡ h) × ((step w x).ledger ≡ w.ledger)
  -- "an existing regular file made that way with the same verifier is success": EXCLUSIVE CREATE of a name whose file keeps this verifier asks for
  -- no room, is answered OK, and changes neither store nor book
  pub made_before : (x : Request) → Lent x → (p : NameIn) (verifier : ℕ) (h : List ℕ) → Asks x (Call.Create p (How.Exclusive verifier))
      → MayMake w.ledger.book x p false → HasName w.ledger.book (directory_in x p) h (name_asked x p)
      → is_made_by w.store verifier (object_in h) ≡ true
      → (is_ok (reply_to w.store x) ≡ true) × (step w x ≡ w)
  -- "Hosts resend CREATE when a reply is lost": an EXCLUSIVE CREATE that was answered OK, sent again with the same bytes before any other call, is
  -- answered OK with the same handle, and changes neither store nor book
  pub sent_twice : (x y : Request) → Lent x → Lent y → y.call ≡ x.call → (p : NameIn) (verifier : ℕ)
      → Asks x (Call.Create p (How.Exclusive verifier)) → Asks y (Call.Create p (How.Exclusive verifier)) → is_ok (reply_to w.store x) ≡ true
      → (is_ok (reply_to (step w x).store y) ≡ true) × (made_handle (reply_to (step w x).store y) ≡ made_handle (reply_to w.store x))
      × (step (step w x) y ≡ step w x)
  -- ---- 8. RENAME ONTO A NAME THAT HAS A LINE
  -- E3: "From and to being the same object is success with nothing changed, times and demand 3's book included.": where the lines of both names have
  -- one handle, RENAME is answered OK and changes neither store nor book
  pub onto_itself : (x : Request) → Lent x → (p q : NameIn) (h : List ℕ) → Asks x (Call.Rename p q)
      → HasName w.ledger.book (directory_in x p) h (name_asked x p) → HasName w.ledger.book (directory_in x q) h (name_asked x q)
      → (is_ok (reply_to w.store x) ≡ true) × (step w x ≡ w)
  -- E3: "A removed target's room, handle and line in the book are treated as REMOVE or RMDIR would treat them."; E7: "a RENAME onto it, frees the
  -- object only with its last name": where they have two, and RENAME is answered OK, the line of the second name is struck
  pub replaced : (x : Request) → Lent x → (p q : NameIn) (h g : List ℕ) → Asks x (Call.Rename p q)
      → HasName w.ledger.book (directory_in x p) h (name_asked x p) → HasName w.ledger.book (directory_in x q) g (name_asked x q) → (h ≡ g → ⊥)
      → is_ok (reply_to w.store x) ≡ true → LosesName w.ledger (step w x).ledger g

-- the state that a format leaves: its store, and the book with the root's line
abbrev pub formatted_state : Store → ℕ → ℕ → ℕ → ℕ → Time → State
formatted_state buffer σ p q r clock = record { store = (format buffer σ p q r clock).store; ledger = first_ledger σ }

-- "One claim about the whole list, not one for each call.": any list of requests, refused ones included, from any successful format. The stamp
-- and the seconds are numbers of 32 bits, as the entry's types give them
abbrev pub Demand3 : Type 0
Demand3 =
    (buffer : Store) (σ p q r : ℕ) (clock : Time) → σ < 4294967296 → clock.seconds < 4294967296 → (format buffer σ p q r clock).number ≡ 0
    → (xs : List Request) → AllLent xs → Kept σ p q r (run (formatted_state buffer σ p q r clock) xs)
