-- The book over bytes, by computation: a file is made, a request is refused, the file is renamed and removed, and its handle is stale; its record
-- is counted once, and there is no room for a second file while it is there. EXCLUSIVE CREATE that is sent twice has one line and one handle, also
-- where the first one took the last room. A file is renamed onto another one, whose line is struck, and onto its own name. A file has a second name:
-- its handle has two lines and was given out once, GETATTR shows two links, and it is live until both names are removed.
use Prim.Native.Nat.{ℕ}
use mathlib.Core.Path.{◌≡◌, refl}
use mathlib.Core.Bool.{true}
use mathlib.Core.List.{List, [], ◌∷◌}
use Rattle.spec.proofs.Setting.{context, space, fresh, getattr_call, create_call, remove_call, link_call, rename_call, exclusive_call, name_a, name_b}
use Rattle.spec.proofs.Setting.{name_c, computing}
use Rattle.history.specs.Book.{Line, as_root, under, handle_bytes, first_ledger, some_at, add, add_link, strike_lines, strike, move_line, move_lines, move}
use Rattle.history.specs.Book.{handle_under, replace}
use Rattle.history.specs.Book.{asked, status_in, is_status, is_ok, made_handle, noted, note}
use Rattle.history.specs.Run.{Request, State, reply_to, step, run}
use Rattle.history.specs.Statement.{lines_of, shown_links, some_line, lined_objects}

-- a request with this call, and one whose reply space is too short
abbrev request : List ℕ → Request
request call = record { call = call; context = context; space = space }

abbrev refused_request : Request
refused_request = record { call = create_call name_a; context = context; space = [] }

-- a store of stamp 9 with two objects and one name
abbrev start : State
start = record { store = fresh 2 1 0; ledger = first_ledger 9 }

abbrev root : List ℕ
root = handle_bytes 9 0 0

abbrev file : List ℕ
file = handle_bytes 9 1 0

abbrev root_line : Line
root_line = record { handle = root; kind = 2; standing = as_root }

abbrev file_line : List ℕ → Line
file_line name = record { handle = file; kind = 1; standing = under root name }

abbrev removed : State
removed = run start (request (create_call name_a) ∷ request (remove_call name_a) ∷ [])

-- the file is made EXCLUSIVE with verifier 1 2, which takes the last room
abbrev exclusive : Request
exclusive = request (exclusive_call name_a 1 2)

abbrev filled : State
filled = run start (exclusive ∷ [])

-- the files "a" and "b" in a store that they fill; "a" is renamed onto "b"
abbrev both : State
both = run (record { store = fresh 3 2 0; ledger = first_ledger 9 }) (request (create_call name_a) ∷ request (create_call name_b) ∷ [])

abbrev replaced_file : List ℕ
replaced_file = handle_bytes 9 2 0

abbrev replaced : State
replaced = run both (request (rename_call 0 name_a 0 name_b) ∷ [])

-- the file "a" in a store with two names, and its second name "b"
abbrev single : State
single = run (record { store = fresh 2 2 0; ledger = first_ledger 9 }) (request (create_call name_a) ∷ [])

abbrev double : State
double = run single (request (link_call 1 0 name_b) ∷ [])

pub record Examples : Type 0 where
  pub made : (run start (refused_request ∷ request (create_call name_a) ∷ [])).ledger.book ≡ file_line name_a ∷ root_line ∷ []
  pub renamed : (run start (request (create_call name_a) ∷ request (rename_call 0 name_a 0 name_b) ∷ [])).ledger.book ≡ file_line name_b ∷ root_line ∷ []
  pub struck : removed.ledger ≡ record { book = root_line ∷ []; given = file ∷ root ∷ [] }
  pub stale : status_in (reply_to removed.store (request (getattr_call 1))) ≡ 70
  pub counted : lined_objects 2 (file_line name_a ∷ file_line name_b ∷ root_line ∷ []) ≡ 2
  pub full : is_status 28 (reply_to (run start (request (create_call name_a) ∷ [])).store (request (create_call name_b))) ≡ true
  pub room_again : is_status 0 (reply_to removed.store (request (create_call name_b))) ≡ true
  pub one_line : (run start (exclusive ∷ exclusive ∷ [])).ledger.book ≡ file_line name_a ∷ root_line ∷ []
  pub one_handle : made_handle (reply_to filled.store exclusive) ≡ file
  pub no_room_asked : is_status 0 (reply_to filled.store exclusive) ≡ true
  pub room_asked : is_status 28 (reply_to filled.store (request (exclusive_call name_b 1 2))) ≡ true
  pub replaced_line : replaced.ledger ≡ record { book = file_line name_b ∷ root_line ∷ []; given = replaced_file ∷ file ∷ root ∷ [] }
  pub replaced_stale : status_in (reply_to replaced.store (request (getattr_call 2))) ≡ 70
  pub replaced_room : (run replaced (request (create_call name_a) ∷ [])).ledger.given ≡ handle_bytes 9 2 1 ∷ replaced_file ∷ file ∷ root ∷ []
  pub onto_itself : (run both (request (rename_call 0 name_a 0 name_a) ∷ [])).ledger ≡ both.ledger
  pub linked : double.ledger ≡ record { book = file_line name_b ∷ file_line name_a ∷ root_line ∷ []; given = file ∷ root ∷ [] }
  pub two_lines : lines_of file double.ledger.book ≡ 2
  pub two_links : shown_links (reply_to double.store (request (getattr_call 1))) ≡ 2
  pub no_name_left : is_status 28 (reply_to double.store (request (link_call 1 0 name_c))) ≡ true
  pub root_not_linked : is_status 22 (reply_to single.store (request (link_call 0 0 name_b))) ≡ true
  pub one_name_left : (run double (request (remove_call name_a) ∷ [])).ledger ≡ record { book = file_line name_b ∷ root_line ∷ []; given = file ∷ root ∷ [] }
  pub still_live : status_in (reply_to (run double (request (remove_call name_a) ∷ [])).store (request (getattr_call 1))) ≡ 0
  pub last_removed : status_in (reply_to (run double (request (remove_call name_a) ∷ request (remove_call name_b) ∷ [])).store (request (getattr_call 1))) ≡ 70
  pub onto_other : (run double (request (rename_call 0 name_a 0 name_b) ∷ [])).ledger ≡ double.ledger

pub examples : Examples
unfolding computing some_at add add_link strike_lines strike move_line move_lines move handle_under replace asked is_status is_ok noted note reply_to step run some_line
    lined_objects lines_of
examples =
    record {
      made = refl;
      renamed = refl;
      struck = refl;
      stale = refl;
      counted = refl;
      full = refl;
      room_again = refl;
      one_line = refl;
      one_handle = refl;
      no_room_asked = refl;
      room_asked = refl;
      replaced_line = refl;
      replaced_stale = refl;
      replaced_room = refl;
      onto_itself = refl;
      linked = refl;
      two_lines = refl;
      two_links = refl;
      no_name_left = refl;
      root_not_linked = refl;
      one_name_left = refl;
      still_live = refl;
      last_removed = refl;
      onto_other = refl;
    }
