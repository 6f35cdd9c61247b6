-- The book: what the calls and their replies alone say is in the store.
use Rattle.std.specs.Prelude.{ℕ, ◌+◌, List, [], ◌∷◌, Bool, false, ◌&&◌, ◌||◌, cond, eqb, leb, length}
use Rattle.std.proofs.Math.Option.{Option, some, none}
use Rattle.kinds.specs.Numbers.{OK, REGULAR, DIRECTORY}
use Rattle.kinds.specs.Reading.{Read, got, bad}
use Rattle.kinds.specs.declared.call.CallHeader.{CallHeader}
use Rattle.kinds.specs.declared.call.Header.{Header}
use Rattle.kinds.specs.declared.call.Header.TheVariants as Header
use Rattle.kinds.specs.declared.call.Arguments.{Arguments}
use Rattle.kinds.specs.declared.call.Arguments.TheVariants as Call
use Rattle.spec.specs.Bytes.{part, words, be_at, same_bytes}
use Rattle.spec.specs.Arguments.{arguments}
use Rattle.spec.specs.Procedures.{cut}
use Rattle.spec.specs.Checked.{Checked, refused, passed}
use Rattle.spec.specs.Header.{header}
use Rattle.spec.specs.Rpc.{nfs, judge}

-- where a line's object stands: "but for the root's, a directory handle and a name"
pub data Standing : Type 0 where
  as_root : Standing
  under : List ℕ → List ℕ → Standing

-- a line, a term that document 01 coins: "A line holds a handle, its type and, but for the root's, a directory handle and a name."
pub record Line : Type 0 where
  pub handle : List ℕ
  pub kind : ℕ
  pub standing : Standing

-- the book, a term that document 01 coins: "The book is fed the calls and their replies"
abbrev pub Book : Type 0
Book = List Line

-- the book, and every handle that has been given out: "A handle is given out once it has a line"
pub record Ledger : Type 0 where
  pub book : Book
  pub given : List (List ℕ)

-- the handle of object o with a generation: "A handle is 12 bytes: stamp, object, generation."
abbrev pub handle_bytes : ℕ → ℕ → ℕ → List ℕ
handle_bytes stamp o generation = words (stamp ∷ o ∷ generation ∷ [])

-- "At first there is only the root's line"
abbrev pub first_ledger : ℕ → Ledger
first_ledger stamp =
    record {
      book = record { handle = handle_bytes stamp 0 0; kind = DIRECTORY; standing = as_root } ∷ [];
      given = handle_bytes stamp 0 0 ∷ [];
    }

-- ---- the steps of the book
abbrev pub stands : List ℕ → List ℕ → Standing → Bool
stands d text as_root = false
stands d text (under e name) = same_bytes e d && same_bytes name text

-- a line has the directory handle d and the name `text`
abbrev pub is_at : List ℕ → List ℕ → Line → Bool
is_at d text l = stands d text l.standing

unfoldable pub some_at : List ℕ → List ℕ → Book → Bool
some_at d text [] = false
some_at d text (l ∷ ls) = is_at d text l || some_at d text ls

-- "CREATE, MKDIR: where no line has that directory handle and name, one is added with them, the replied handle and the type"
unfoldable pub add : List ℕ → ℕ → List ℕ → List ℕ → Ledger → Ledger
add h kind d text L =
    cond (some_at d text L.book) L
    (record { book = record { handle = h; kind = kind; standing = under d text } ∷ L.book; given = h ∷ L.given })

-- E7: "a LINK answered OK adds a line to its book with the source's handle and type", which is a file's: no handle is given out
unfoldable pub add_link : List ℕ → List ℕ → List ℕ → Ledger → Ledger
add_link h d text L = record { book = record { handle = h; kind = REGULAR; standing = under d text } ∷ L.book; given = L.given }

-- "REMOVE, RMDIR: such a line is struck."
unfoldable pub strike_lines : List ℕ → List ℕ → Book → Book
strike_lines d text [] = []
strike_lines d text (l ∷ ls) = cond (is_at d text l) (strike_lines d text ls) (l ∷ strike_lines d text ls)

unfoldable pub strike : List ℕ → List ℕ → Ledger → Ledger
unfolding strike_lines
strike d text L = record { book = strike_lines d text L.book; given = L.given }

-- "RENAME: the line with the first pair gets the second."
unfoldable pub move_line : List ℕ → List ℕ → List ℕ → List ℕ → Line → Line
move_line d text e title l = cond (is_at d text l) (record { handle = l.handle; kind = l.kind; standing = under e title }) l

unfoldable pub move_lines : List ℕ → List ℕ → List ℕ → List ℕ → Book → Book
unfolding move_line
move_lines d text e title [] = []
move_lines d text e title (l ∷ ls) = move_line d text e title l ∷ move_lines d text e title ls

unfoldable pub move : List ℕ → List ℕ → List ℕ → List ℕ → Ledger → Ledger
unfolding move_lines
move d text e title L = record { book = move_lines d text e title L.book; given = L.given }

-- the handle of the line with the directory handle d and the name `text`
unfoldable pub handle_under : List ℕ → List ℕ → Book → Option (List ℕ)
handle_under d text [] = none
handle_under d text (l ∷ ls) = cond (is_at d text l) (some l.handle) (handle_under d text ls)

-- both pairs have a line, and the two lines have one handle
abbrev pub are_same : Option (List ℕ) → Option (List ℕ) → Bool
are_same none h = false
are_same (some g) none = false
are_same (some g) (some h) = same_bytes g h

-- E3: "From and to being the same object is success with nothing changed, times and demand 3's book included."; "A removed target's room, handle and
-- line in the book are treated as REMOVE or RMDIR would treat them.": the line with the second pair is struck, then the line with the first gets it
unfoldable pub replace : List ℕ → List ℕ → List ℕ → List ℕ → Ledger → Ledger
replace d text e title L =
    cond (are_same (handle_under d text L.book) (handle_under e title L.book)) L (move d text e title (strike e title L))

-- ---- what a call asks, and what a reply says, by their bytes alone
abbrev pub arguments_got : Read Arguments → Option Arguments
arguments_got (bad p) = none
arguments_got (got a next) = some a

abbrev pub judged_arguments : List ℕ → CallHeader → ℕ → Checked (Unit {0}) → Option Arguments
judged_arguments call h at (refused stat) = none
judged_arguments call h at (passed _) = arguments_got (arguments h.procedure call at)

abbrev pub headed_arguments : List ℕ → Read Header → Option Arguments
headed_arguments call (bad p) = none
headed_arguments call (got (Header.OtherVersion xid) at) = none
headed_arguments call (got (Header.Call h) at) = judged_arguments call h at (judge nfs h)

-- the arguments of a call whose header is complete and names one of the procedures, and which can be read
unfoldable pub asked : List ℕ → Option Arguments
asked call = headed_arguments call (header call 0)

-- the word of a reply after its six header words: the status
abbrev pub status_in : List ℕ → ℕ
status_in reply = be_at reply 24 4

-- an accepted reply with accept_stat SUCCESS, 0, and that status
unfoldable pub is_status : ℕ → List ℕ → Bool
is_status status reply = leb 28 (length reply) && (eqb (be_at reply 20 4) 0 && eqb (status_in reply) status)

-- "a call answered OK"
unfoldable pub is_ok : List ℕ → Bool
unfolding is_status
is_ok reply = is_status OK reply

-- the handle that stands at an index of a reply as opaque data: its length, then its bytes
abbrev pub handle_at : List ℕ → ℕ → List ℕ
handle_at reply at = part reply (at + 4) (be_at reply at 4)

-- the handle in an OK reply: LOOKUP's after the status; CREATE's and MKDIR's after the status and "handle follows"
abbrev pub found_handle : List ℕ → List ℕ
found_handle reply = handle_at reply 28

abbrev pub made_handle : List ℕ → List ℕ
made_handle reply = handle_at reply 32

-- what a call that is answered OK does to the book
unfoldable pub noted : List ℕ → List ℕ → Ledger → Option Arguments → Ledger
noted call reply L none = L
noted call reply L (some (Call.Create p manner)) = add (made_handle reply) REGULAR (cut call p.directory) (cut call p.name) L
noted call reply L (some (Call.Mkdir p a)) = add (made_handle reply) DIRECTORY (cut call p.directory) (cut call p.name) L
noted call reply L (some (Call.Remove p)) = strike (cut call p.directory) (cut call p.name) L
noted call reply L (some (Call.Rmdir p)) = strike (cut call p.directory) (cut call p.name) L
noted call reply L (some (Call.Rename p q)) =
    replace (cut call p.directory) (cut call p.name) (cut call q.directory) (cut call q.name) L
noted call reply L (some (Call.Link h p)) = add_link (cut call h) (cut call p.directory) (cut call p.name) L
noted call reply L (some Call.Null) = L
noted call reply L (some (Call.Getattr h)) = L
noted call reply L (some (Call.Setattr h a g)) = L
noted call reply L (some (Call.Lookup p)) = L
noted call reply L (some (Call.Access h bits)) = L
noted call reply L (some (Call.Read h offset count)) = L
noted call reply L (some (Call.Write h offset count bytes)) = L
noted call reply L (some (Call.Readdir h cookie verifier count)) = L
noted call reply L (some (Call.Fsstat h)) = L
noted call reply L (some (Call.Fsinfo h)) = L
noted call reply L (some (Call.Pathconf h)) = L
noted call reply L (some (Call.Commit h)) = L
noted call reply L (some Call.Unserved) = L

-- the book's step: "only a call answered OK changes the book"
unfoldable pub note : List ℕ → List ℕ → Ledger → Ledger
note call reply L = cond (is_ok reply) (noted call reply L (asked call)) L
