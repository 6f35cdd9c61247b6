-- NOSPC is answered to no request but one that asks for room, and only where that room is missing; MLINK to no request but a LINK of a file with 16
-- names. Assumes nothing.
use mathlib.Core.Path.{◌≡◌, refl, sym, ap, ◌∙◌, subst}
use mathlib.Core.Logic.{⊎_elim}
use mathlib.Core.Bool.{true, false}
use mathlib.Core.Option.{some}
use mathlib.Core.List.{List, [], ◌∷◌, append-nil}
use Prim.Native.Nat.{ℕ, ◌<◌}
use native.Mathlib.Omega.{arith}
use lib.Dec.{eqb, lit<}
use lib.ListN.{length}
use borrow.Author.Tests.{eqb-true, leb-true, leb-false}
use Rattle.kinds.specs.Numbers.{NOSPC, MLINK, NOTSUPP, most_links}
use Rattle.kinds.specs.declared.call.Part.{Part}
use Rattle.kinds.specs.declared.call.How.{How}
use Rattle.kinds.specs.declared.call.Arguments.{Arguments}
use Rattle.kinds.specs.declared.call.Arguments.TheVariants as Call
use Rattle.spec.specs.Checked.{Checked, refused, passed}
use Rattle.spec.specs.Handles.{reach}
use Rattle.spec.specs.Bytes.{words}
use Rattle.spec.specs.Image.{Store, objects}
use Rattle.spec.specs.Procedures.{cut, act}
use Rattle.spec.specs.Procedures.Attributes.{getattr, setattr, access}
use Rattle.spec.specs.Procedures.Data.{read, read_result, write_done, write, commit}
use Rattle.spec.specs.Procedures.Link.{check_link, fail_linking, link}
use Rattle.spec.specs.Procedures.Listing.{readdir}
use Rattle.spec.specs.Procedures.Names.{lookup, create, mkdir}
use Rattle.spec.specs.Procedures.Removal.{remove_from, remove, rmdir, check_rename, fail_renaming, rename}
use Rattle.spec.specs.Procedures.Volume.{fsstat, fsinfo, pathconf}
use Rattle.spec.specs.Results.{Result, null, dead, failed, changed, renamed, linked, got_attributes, found, granted, got_bytes, wrote, created, listed}
use Rattle.spec.specs.Results.{got_room, got_limits, got_naming, committed, Done, fail_showing, fail_changing, settle}
use Rattle.spec.specs.Room.{namings}
use Rattle.spec.specs.Rpc.{accepted}
use Rattle.spec.specs.Replies.{result_bytes}
use Rattle.laws.proofs.Count.{true_false}
use Rattle.laws.proofs.Error.{status_of}
use Rattle.laws.proofs.Valid.{passes_valid}
use Rattle.laws.proofs.Words.{words_length}
use Rattle.history.specs.Book.{Ledger, is_status}
use Rattle.history.specs.Run.{Request, reply_to}
use Rattle.history.specs.Statement.{Asks, Room, Missing}
use Rattle.history.proofs.Asking.{AsksStore, AsksMany}
use Rattle.history.proofs.Inv.{Inv}
use Rattle.history.proofs.Replies.{short_silent}
use Rattle.history.proofs.Asked.{Idle, served}
use Rattle.history.proofs.Noted.{Answer, Says, dead_says, changed_says, renamed_says, wrote_says, created_says}
use Rattle.history.proofs.Noted.{showing_says, changing_says, renaming_says, linked_says, linking_says}
use Rattle.history.proofs.Statuses.{Tells, Plain, reach_tells, regular_tells, lookup_tells, remove_tells, rmdir_tells, rename_tells, readdir_tells}
use Rattle.history.proofs.Statuses.{setattr_tells, write_tells, create_tells, mkdir_tells, link_tells}
use Rattle.history.proofs.Next.{answer_to_lem}
use Rattle.history.proofs.Nospc.{status_of_lem, created_so, room}

-- ---- a result that shows a status
abbrev Shows : Result → Type 0
Shows null = ⊥
Shows (dead status) = Unit {0}
Shows (failed status a) = Unit {0}
Shows (changed status c) = Unit {0}
Shows (renamed status c d) = Unit {0}
Shows (linked status a c) = Unit {0}
Shows (got_attributes a) = Unit {0}
Shows (found h a d) = Unit {0}
Shows (granted a bits) = Unit {0}
Shows (got_bytes a eof bytes) = Unit {0}
Shows (wrote c count verifier) = Unit {0}
Shows (created h a d) = Unit {0}
Shows (listed a es eof) = Unit {0}
Shows (got_room a total free objects available) = Unit {0}
Shows (got_limits a) = Unit {0}
Shows (got_naming a) = Unit {0}
Shows (committed c verifier) = Unit {0}

says : (r : Result) (n : ℕ) → Shows r → status_of r ≡ n → Says r n
says r n t e = record { status = e; some = λ z. subst Shows z t }

-- ---- a status that is NOSPC only where room was asked for, and MLINK only where a file has as many names as it may
abbrev ToldOnly : Store → Request → ℕ → Type 0
ToldOnly s x n = (n < 4294967296) × (n ≡ NOSPC → (m : Room) × AsksStore s x m) × (n ≡ MLINK → AsksMany s x)

module _ (s : Store) (x : Request) where
  Q : ℕ → Type 0
  Q = ToldOnly s x

  plain : (n : ℕ) → Plain n → Q n
  unfolding Q
  plain n d = (d.1, (λ e. absurd (d.2 e)), (λ e. absurd (d.3 e)))

  asks : (m : Room) → AsksStore s x m → Q NOSPC
  unfolding Q
  asks m a = (lit< tt, (λ e. (m, a)), (λ e. absurd (omega arith)))

  many : AsksMany s x → Q MLINK
  unfolding Q
  many a = (lit< tt, (λ e. absurd (omega arith)), (λ e. a))

  -- ---- what a reply with one of the two statuses tells of the checks
  Found : Type 0
  Found = (is_status NOSPC (reply_to s x) ≡ true → (m : Room) × AsksStore s x m) × (is_status MLINK (reply_to s x) ≡ true → AsksMany s x)

  by_checks : {A : Type 0} {a : Arguments} (fail : ℕ → Result) (c : Checked A) (go : A → Done) → ((n : ℕ) → Says (fail n) n) → Tells Q c
      → Answer x.call (reply_to s x) a (settle s fail c go).result → ((y : A) → Says (go y).result 0) → Found
  unfolding Q Found
  by_checks {a} fail (refused n) go f h A g =
      let z = h n refl in
      let is : (k : ℕ) → is_status k (reply_to s x) ≡ true → n ≡ k = λ k e.
      eqb-true n k (sym (status_of_lem x.call (reply_to s x) a (fail n) A n k (f n) z.0) ∙ e) in
      ((λ e. z.1 (is NOSPC e)), (λ e. z.2 (is MLINK e)))
  by_checks {a} fail (passed y) go f h A g =
      let ok : (k : ℕ) → is_status k (reply_to s x) ≡ eqb 0 k = λ k. status_of_lem x.call (reply_to s x) a (go y).result A 0 k (g y) (lit< tt) in
      ((λ e. true_false (sym e ∙ ok NOSPC)), (λ e. true_false (sym e ∙ ok MLINK)))

  -- a failure that shows attributes, and one that shows a change
  showing : {A : Type 0} {c : Checked A} {a : Arguments} (h : List ℕ) (go : A → Done) → Tells Q c
      → Answer x.call (reply_to s x) a (settle s (fail_showing s h) c go).result → ((y : A) → Says (go y).result 0) → Found
  showing {c} h go = by_checks (fail_showing s h) c go (showing_says s h)

  changing : {A : Type 0} {c : Checked A} {a : Arguments} (h : List ℕ) (go : A → Done) → Tells Q c
      → Answer x.call (reply_to s x) a (settle s (fail_changing s h) c go).result → ((y : A) → Says (go y).result 0) → Found
  changing {c} h go = by_checks (fail_changing s h) c go (changing_says s h)

  at : Part → List ℕ
  at p = cut x.call p

  asks_room : (a : Arguments) → Asks x a → Answer x.call (reply_to s x) a (act s x.context x.call a).result → Found
  unfolding act getattr setattr lookup access read read_result write write_done create mkdir remove_from remove rmdir rename link readdir fsstat fsinfo pathconf commit
      result_bytes accepted status_of Found at
  asks_room Call.Null k A =
      let six = A.xid ∷ 1 ∷ 0 ∷ 0 ∷ 0 ∷ 0 ∷ [] in
      let silent : (k : ℕ) → is_status k (reply_to s x) ≡ false = short_silent (reply_to s x) (omega (arith, ap length A.is, words_length six, ap length (append-nil (words six)))) in
      ((λ e. true_false (sym e ∙ silent NOSPC)), (λ e. true_false (sym e ∙ silent MLINK)))
  asks_room (Call.Getattr h) k A = by_checks dead (reach s (at h)) _ dead_says (reach_tells Q plain s (at h)) A (λ o. says _ 0 tt refl)
  asks_room (Call.Setattr h a g) k A =
      changing (at h) _
      (setattr_tells Q plain s (at h) a g (λ o e₁ e₂ e₃ e₄. asks _ (AsksStore.by_setattr h a g o k e₁ e₂ e₃ e₄)))
      A (λ o. changed_says 0 _)
  asks_room (Call.Lookup p) k A = showing (at p.directory) _ (lookup_tells Q plain s (at p.directory) (at p.name)) A (λ o. says _ 0 tt refl)
  asks_room (Call.Access h bits) k A = showing (at h) _ (reach_tells Q plain s (at h)) A (λ o. says _ 0 tt refl)
  asks_room (Call.Read h offset count) k A = showing (at h) _ (regular_tells Q plain s (at h)) A (λ o. says _ 0 tt refl)
  asks_room (Call.Write h offset n bytes) k A =
      changing (at h) _
      (write_tells Q plain s (at h) offset n (at bytes) (λ o e₁ e₂ l m. asks _ (AsksStore.by_write h offset n bytes o k e₁ e₂ l m)))
      A (λ o. wrote_says _ _ _)
  asks_room (Call.Create p manner) k A =
      changing (at p.directory) _
      (create_tells Q plain s (at p.directory) (at p.name) manner
      (λ d e₁ e₂ e₃. asks _ (AsksStore.by_create p manner d k e₁ e₂ e₃))
      (λ d n a w e₁ e₂ e₃ e₄. asks _ (AsksStore.by_recreate p a d n (subst (λ (m : How). Asks x (Call.Create p m)) w k) e₁ e₂ e₃ e₄)))
      A (λ y. created_so s x.context y.0 _ _ y.1)
  asks_room (Call.Mkdir p a) k A =
      changing (at p.directory) _
      (mkdir_tells Q plain s (at p.directory) (at p.name) a (λ d e₁ e₂ e₃. asks _ (AsksStore.by_mkdir p a d k e₁ e₂ e₃)))
      A (λ y. created_says _ _ _)
  asks_room (Call.Remove p) k A = changing (at p.directory) _ (remove_tells Q plain s (at p.directory) (at p.name)) A (λ y. changed_says 0 _)
  asks_room (Call.Rmdir p) k A = changing (at p.directory) _ (rmdir_tells Q plain s (at p.directory) (at p.name)) A (λ y. changed_says 0 _)
  asks_room (Call.Rename p q) k A =
      let h = at p.directory in
      let g = at q.directory in
      by_checks (fail_renaming s h g) (check_rename s h (at p.name) g (at q.name)) _ (renaming_says s h g)
      (rename_tells Q plain s h (at p.name) g (at q.name)) A (λ y. renamed_says 0 _ _)
  asks_room (Call.Link f p) k A =
      let h = at f in
      let g = at p.directory in
      by_checks (fail_linking s h g) (check_link s h g (at p.name)) _ (linking_says s h g)
      (link_tells Q plain s h g (at p.name)
      (λ o d m t. many (f, p, o, d, k, m, leb-true most_links (namings s o) t))
      (λ o d m t. asks _ (AsksStore.by_link f p o d k m (leb-false most_links (namings s o) t))))
      A (λ y. linked_says 0 _ _)
  asks_room (Call.Readdir h cookie verifier count) k A = showing (at h) _ (readdir_tells Q plain s (at h) cookie verifier count) A (λ o. says _ 0 tt refl)
  asks_room (Call.Fsstat h) k A = showing (at h) _ (reach_tells Q plain s (at h)) A (λ o. says _ 0 tt refl)
  asks_room (Call.Fsinfo h) k A = showing (at h) _ (reach_tells Q plain s (at h)) A (λ o. says _ 0 tt refl)
  asks_room (Call.Pathconf h) k A = showing (at h) _ (reach_tells Q plain s (at h)) A (λ o. says _ 0 tt refl)
  asks_room (Call.Commit h) k A = changing (at h) _ (regular_tells Q plain s (at h)) A (λ o. says _ 0 tt refl)
  asks_room Call.Unserved k A =
      let silent : (k : ℕ) → is_status k (reply_to s x) ≡ eqb NOTSUPP k = λ k. status_of_lem x.call (reply_to s x) Call.Unserved (dead NOTSUPP) A NOTSUPP k (dead_says NOTSUPP) (lit< tt) in
      ((λ e. true_false (sym e ∙ silent NOSPC)), (λ e. true_false (sym e ∙ silent MLINK)))

-- what is asked where one of the two is answered
status_tells : (σ p q r : ℕ) (s : Store) (L : Ledger) → Inv σ p q r s L → (x : Request) → Found s x
unfolding Found
status_tells σ p q r s L I x = ⊎_elim
    (λ (i : Idle s x). ((λ e. true_false (sym e ∙ i.silent NOSPC)), (λ e. true_false (sym e ∙ i.silent MLINK))))
    (λ (k : (a : Arguments) × Asks x a). asks_room s x k.0 k.1 (answer_to_lem σ p q r s L I x k.0 k.1))
    (served s x (passes_valid s I.valid))

-- whatever is answered NOSPC asks for room that is missing
pub only_room_lem : (σ p q r : ℕ) (s : Store) (L : Ledger) → Inv σ p q r s L → (x : Request) → is_status NOSPC (reply_to s x) ≡ true
    → (m : Room) × AsksStore s x m × Missing σ p q r (record { store = s; ledger = L }) m
unfolding Found
only_room_lem σ p q r s L I x e =
    let (m, y) = (status_tells σ p q r s L I x).0 e in
    (m, y, (room σ p q r s L I x y).nospc.0 e)

-- whatever is answered MLINK asks for one name too many
pub only_many : (σ p q r : ℕ) (s : Store) (L : Ledger) → Inv σ p q r s L → (x : Request) → is_status MLINK (reply_to s x) ≡ true → AsksMany s x
unfolding Found
only_many σ p q r s L I x e = (status_tells σ p q r s L I x).1 e
