-- The book's step, by a call's result. Assumes nothing.
use mathlib.Core.Path.{◌≡◌, refl, ap, ◌∙◌}
use mathlib.Core.Logic.{◌≢◌}
use mathlib.Core.Bool.{Bool, true, false, cond}
use mathlib.Core.Option.{Option, some, none}
use mathlib.Core.List.{List, ◌∷◌}
use Prim.Native.Nat.{ℕ, ◌<◌}
use native.Mathlib.Omega.{arith}
use lib.Dec.{eqb}
use borrow.Author.Tests.{eq-eqb, ne_eqb}
use Rattle.kinds.specs.declared.object.Attributes.{Attributes}
use Rattle.kinds.specs.declared.object.Change.{Change}
use Rattle.kinds.specs.declared.call.Arguments.{Arguments}
use Rattle.spec.specs.Checked.{Checked, refused, passed}
use Rattle.spec.specs.Handles.{reach, handle_attributes, handle_change}
use Rattle.spec.specs.Image.{Store}
use Rattle.spec.specs.Procedures.Link.{linked_or, fail_linking}
use Rattle.spec.specs.Procedures.Removal.{renamed_or, fail_renaming}
use Rattle.spec.specs.Replies.{result_bytes}
use Rattle.spec.specs.Results.{Result, null, dead, changed, showing_of, changing_of, fail_showing, fail_changing, renamed, linked, wrote, created}
use Rattle.spec.specs.Rpc.{accepted}
use Rattle.laws.proofs.Error.{status_of}
use Rattle.spec.specs.Bytes.{same_bytes}
use Rattle.laws.proofs.Bytes.{same_yes, same_no}
use Rattle.history.specs.Book.{under, Book, Ledger, asked, is_ok, some_at, add, strike, move, handle_under, are_same, replace, noted, note}
use Rattle.history.proofs.Agree.{strike_none, handle_none}
use Rattle.history.proofs.Replies.{answered_ok}

-- a call with these arguments was answered with this result
pub record Answer (call reply : List ℕ) (a : Arguments) (r : Result) : Type 0 where
  pub reads : asked call ≡ some a
  pub xid : ℕ
  pub procedure : ℕ
  pub is : reply ≡ accepted xid 0 (result_bytes procedure r)

-- a result that begins with the status n
pub record Says (r : Result) (n : ℕ) : Type 0 where
  pub status : status_of r ≡ n
  pub some : r ≢ null

pub dead_says : (n : ℕ) → Says (dead n) n
unfolding status_of
dead_says n = record { status = refl; some = λ e. let z : ◌≡◌ {A = ℕ} 0 1 = cc in omega arith }

pub changed_says : (n : ℕ) (c : Change) → Says (changed n c) n
unfolding status_of
changed_says n c = record { status = refl; some = λ e. let z : ◌≡◌ {A = ℕ} 0 1 = cc in omega arith }

pub renamed_says : (n : ℕ) (c d : Option Change) → Says (renamed n c d) n
unfolding status_of
renamed_says n c d = record { status = refl; some = λ e. let z : ◌≡◌ {A = ℕ} 0 1 = cc in omega arith }

pub linked_says : (n : ℕ) (a : Option Attributes) (c : Option Change) → Says (linked n a c) n
unfolding status_of
linked_says n a c = record { status = refl; some = λ e. let z : ◌≡◌ {A = ℕ} 0 1 = cc in omega arith }

pub wrote_says : (c : Change) (n v : ℕ) → Says (wrote c n v) 0
unfolding status_of
wrote_says c n v = record { status = refl; some = λ e. let z : ◌≡◌ {A = ℕ} 0 1 = cc in omega arith }

pub created_says : (h : List ℕ) (a : Attributes) (c : Change) → Says (created h a c) 0
unfolding status_of
created_says h a c = record { status = refl; some = λ e. let z : ◌≡◌ {A = ℕ} 0 1 = cc in omega arith }

pub showing_says : (s : Store) (h : List ℕ) (n : ℕ) → Says (fail_showing s h n) n
unfolding fail_showing status_of
showing_says s h n = go (reach s h)
  where
    go : (x : Checked ℕ) → Says (showing_of s n x) n
    go (refused m) = dead_says n
    go (passed o) = record { status = refl; some = λ e. let z : ◌≡◌ {A = ℕ} 0 1 = cc in omega arith }

pub changing_says : (s : Store) (h : List ℕ) (n : ℕ) → Says (fail_changing s h n) n
unfolding fail_changing status_of
changing_says s h n = go (reach s h)
  where
    go : (x : Checked ℕ) → Says (changing_of s n x) n
    go (refused m) = dead_says n
    go (passed o) = changed_says n _

pub renaming_says : (s : Store) (h g : List ℕ) (n : ℕ) → Says (fail_renaming s h g n) n
unfolding fail_renaming status_of
renaming_says s h g n = go (handle_change s s h) (handle_change s s g)
  where
    go : (x y : Option Change) → Says (renamed_or n x y) n
    go none none = dead_says n
    go none (some b) = renamed_says n none (some b)
    go (some a) b = renamed_says n (some a) b

pub linking_says : (s : Store) (h g : List ℕ) (n : ℕ) → Says (fail_linking s h g n) n
unfolding fail_linking status_of
linking_says s h g n = go (handle_attributes s h) (handle_change s s g)
  where
    go : (x : Option Attributes) (y : Option Change) → Says (linked_or n x y) n
    go none none = dead_says n
    go none (some b) = linked_says n none (some b)
    go (some a) b = linked_says n (some a) b

module _ (call reply : List ℕ) (a : Arguments) (r : Result) (A : Answer call reply a r) where
  ok_of : r ≢ null → status_of r < 4294967296 → is_ok reply ≡ eqb (status_of r) 0
  ok_of n l = ap is_ok A.is ∙ answered_ok A.xid A.procedure r n l

  pub not_ok : (n : ℕ) → Says r n → 0 < n → n < 4294967296 → is_ok reply ≡ false
  not_ok n f l h = ok_of f.some (omega (arith, f.status)) ∙ ne_eqb (status_of r) 0 (λ e. omega (arith, f.status))

  -- a call that is not answered OK leaves the book
  pub note_failed : (n : ℕ) → Says r n → 0 < n → n < 4294967296 → (L : Ledger) → note call reply L ≡ L
  unfolding note
  note_failed n f l h L =
      ap (λ (t : Bool). cond t (noted call reply L (asked call)) L) (not_ok n f l h)

  pub note_ok : Says r 0 → (L : Ledger) → note call reply L ≡ noted call reply L (some a)
  unfolding note
  note_ok f L =
      ap (λ (t : Bool). cond t (noted call reply L (asked call)) L) (ok_of f.some (omega (arith, f.status)) ∙ eq-eqb (status_of r) 0 f.status)
      ∙ ap (noted call reply L) A.reads

-- a call that never changes the book
pub note_quiet : (call reply : List ℕ) (a : Arguments) (L : Ledger) → asked call ≡ some a → noted call reply L (some a) ≡ L → note call reply L ≡ L
unfolding note
note_quiet call reply a L e f = go (is_ok reply)
  where
    go : (t : Bool) → cond t (noted call reply L (asked call)) L ≡ L
    go true = ap (noted call reply L) e ∙ f
    go false = refl

-- a line is added, or there is one already
pub add_new : (h : List ℕ) (kind : ℕ) (d text : List ℕ) (L : Ledger) → some_at d text L.book ≡ false
    → add h kind d text L ≡ record { book = record { handle = h; kind = kind; standing = under d text } ∷ L.book; given = h ∷ L.given }
unfolding add
add_new h kind d text L e = rw e

pub add_old : (h : List ℕ) (kind : ℕ) (d text : List ℕ) (L : Ledger) → some_at d text L.book ≡ true → add h kind d text L ≡ L
unfolding add
add_old h kind d text L e = rw e

-- ---- RENAME
are_none : (x : Option (List ℕ)) → are_same x none ≡ false
are_none none = refl
are_none (some g) = refl

module _ (h text g title : List ℕ) (L : Ledger) where
  -- no line has the second pair
  pub replace_new : some_at g title L.book ≡ false → replace h text g title L ≡ move h text g title L
  unfolding replace strike
  replace_new e =
      ap (λ (x : Option (List ℕ)). cond (are_same (handle_under h text L.book) x) L (move h text g title (strike g title L)))
      (handle_none g title L.book e)
      ∙ ap (λ (t : Bool). cond t L (move h text g title (strike g title L))) (are_none (handle_under h text L.book))
      ∙ ap (λ (b : Book). move h text g title (record { book = b; given = L.given })) (strike_none g title L.book e)

  -- both pairs have a line, with handles j and k
  replace_by : (j k : List ℕ) → handle_under h text L.book ≡ some j → handle_under g title L.book ≡ some k
      → replace h text g title L ≡ cond (same_bytes j k) L (move h text g title (strike g title L))
  unfolding replace
  replace_by j k e f = λ i. cond (are_same (e i) (f i)) L (move h text g title (strike g title L))

  pub replace_same : (j : List ℕ) → handle_under h text L.book ≡ some j → handle_under g title L.book ≡ some j → replace h text g title L ≡ L
  replace_same j e f =
      replace_by j j e f ∙ ap (λ (t : Bool). cond t L (move h text g title (strike g title L))) (same_yes j j refl)

  pub replace_over : (j k : List ℕ) → handle_under h text L.book ≡ some j → handle_under g title L.book ≡ some k → j ≢ k
      → replace h text g title L ≡ move h text g title (strike g title L)
  replace_over j k e f n =
      replace_by j k e f ∙ ap (λ (t : Bool). cond t L (move h text g title (strike g title L))) (same_no j k n)
