-- The conditions of room, by the book and by the checks of the store: a handle that is reached has a line, and a name is found where a line stands
-- under it. Assumes nothing.
use mathlib.Core.Path.{◌≡◌, refl, sym, ap, ◌∙◌, subst}
use mathlib.Core.Bool.{Bool, true, false, ◌&&◌, ◌||◌}
use mathlib.Core.Option.{Option, some, none}
use mathlib.Core.Logic.{inl, inr, ⊎_elim}
use mathlib.Core.List.Memᴰ
use mathlib.Core.List.{List, [], ◌∷◌, Memᴰ}
use Prim.Native.Nat.{ℕ, ◌+◌, ◌<◌, min, max}
use native.Mathlib.Omega.{arith}
use lib.Dec.{eqb}
use Rattle.kinds.specs.Numbers.{most_transfer_bytes}
use Rattle.kinds.specs.declared.call.Part.{Part}
use Rattle.kinds.specs.declared.call.NameIn.{NameIn}
use Rattle.kinds.specs.declared.call.Settable.{Settable}
use Rattle.kinds.specs.declared.call.How.{How}
use Rattle.kinds.specs.declared.call.How.TheVariants as How
use Rattle.kinds.specs.declared.call.Arguments.TheVariants as Call
use Rattle.spec.specs.Checked.{Checked, refused, passed, bind, refuse_if}
use Rattle.spec.specs.Edits.{only_ctime}
use Rattle.spec.specs.Handles.{handle_of, reach, reach_directory, check_name}
use Rattle.spec.specs.Image.{Store, objects, blocks, object_at, name_at}
use Rattle.spec.specs.Names.{is_dots}
use Rattle.spec.specs.Procedures.{cut}
use Rattle.spec.specs.Procedures.Attributes.{is_given, size_set, bad_attributes, differs}
use Rattle.spec.specs.Procedures.Data.{reach_regular}
use Rattle.spec.specs.Procedures.Names.{settable_in, is_made_by, check_new}
use Rattle.spec.specs.Room.{is_directory, size_of, namings, find_name}
use Rattle.laws.proofs.ActGood.{regular_of}
use Rattle.laws.proofs.Count.{true_false}
use Rattle.laws.proofs.GoodRecords.{live_at}
use Rattle.laws.proofs.Passed.{Reached, reach_passed, directory_passed, regular_passed}
use Rattle.laws.proofs.Range.{Below}
use Rattle.laws.proofs.RecordRange.{cut_below}
use Rattle.laws.proofs.Valid.{true_live, regular_true, true_regular, true_directory}
use Rattle.history.specs.Book.{under, Line, Book, Ledger, is_at, some_at, is_ok}
use Rattle.history.specs.Run.{Request, Lent, outcome_of, reply_to, State}
use Rattle.history.specs.Statement.{In, HasLine, HasName, lines_of, StandApart, Asks, object_in, Room, growth, new_object}
use Rattle.history.specs.Statement.{directory_in, name_asked, MayMake, MayLink, AsksRoom}
use Rattle.history.proofs.Asking.{AsksStore}
use Rattle.history.proofs.Sum.{or_right}
use Rattle.history.proofs.Agree.{handle_in, at_yes}
use Rattle.history.proofs.Seen.{view, kind_at, child_at, live_in}
use Rattle.history.proofs.Inv.{Inv, tree, good}
use Rattle.history.proofs.Checks.{handle_reached, found_name_lem, no_name}
use Rattle.history.proofs.Lines.{object_lines_lem, found_line, lined_current, stand_apart}
use Rattle.history.proofs.Making.{reached_own, line_none, line_some, object_seen}
use Rattle.history.proofs.Statuses.{MayAdd}
use Rattle.history.proofs.Counts.{file_namings}
use Rattle.history.proofs.Answers.{names_at}
use Rattle.history.proofs.Nospc.{made_before_lem}

-- two lines that stand alike are one
pub one_standing : (b : Book) → StandApart b → (k l : Line) → In k b → In l b → k.standing ≡ l.standing → k ≡ l
one_standing [] h k l m n e = absurd (Memᴰ.not-nil m)
one_standing (x ∷ b) h k l m n e = ⊎_elim
    (λ (u : k ≡ x). ⊎_elim
    (λ (v : l ≡ x). u ∙ sym v)
    (λ (v : Memᴰ l b). absurd (h.0 l v (sym e ∙ ap (λ (y : Line). y.standing) u)))
    (Memᴰ.cases_cons n))
    (λ (u : Memᴰ k b). ⊎_elim
    (λ (v : l ≡ x). absurd (h.0 k u (e ∙ ap (λ (y : Line). y.standing) v)))
    (λ (v : Memᴰ l b). one_standing b h.1 k l u v e)
    (Memᴰ.cases_cons n))
    (Memᴰ.cases_cons m)

-- the checks of a name to be made, one by one
new_all : (text : List ℕ) (invalid : Bool) → check_name text ≡ passed tt → is_dots text ≡ false → invalid ≡ false
    → check_new text invalid ≡ passed tt
unfolding check_new
new_all text invalid a b c = rw (a, b, c)

new_each : (text : List ℕ) (invalid : Bool) → check_new text invalid ≡ passed tt
    → (check_name text ≡ passed tt) × (is_dots text ≡ false) × (invalid ≡ false)
unfolding check_new
new_each text invalid e = go (check_name text) (is_dots text) invalid e
  where
    go : (c : Checked (Unit {0})) (t u : Bool) → bind c (λ _. bind (refuse_if t 17) (λ _. refuse_if u 22)) ≡ passed tt
        → (c ≡ passed tt) × (t ≡ false) × (u ≡ false)
    go (refused n) t u e = let z : ◌≡◌ {A = ℕ} 0 1 = cc in absurd (omega arith)
    go (passed _) true u e = let z : ◌≡◌ {A = ℕ} 0 1 = cc in absurd (omega arith)
    go (passed _) false true e = let z : ◌≡◌ {A = ℕ} 0 1 = cc in absurd (omega arith)
    go (passed _) false false e = (refl, refl, refl)

-- a line that stands there is met by the book's own test
pub met : (b : Book) (d text : List ℕ) (l : Line) → In l b → l.standing ≡ under d text → some_at d text b ≡ true
unfolding some_at
met [] d text l m e = absurd (Memᴰ.not-nil m)
met (x ∷ b) d text l m e = ⊎_elim
    (λ (u : l ≡ x). ap (λ (t : Bool). t || some_at d text b) (at_yes d text x (ap (λ (y : Line). y.standing) (sym u) ∙ e)))
    (λ (u : Memᴰ l b). ap (λ (t : Bool). is_at d text x || t) (met b d text l u e) ∙ or_right (is_at d text x) true refl)
    (Memᴰ.cases_cons m)

-- record o is a live object with this handle and type, and the handle reaches it
pub record Lined (σ : ℕ) (s : Store) (h : List ℕ) (kind o : ℕ) : Type 0 where
  pub below : o < objects s
  pub reached : reach s h ≡ passed o
  pub type : (object_at s o).kind ≡ kind
  pub own : h ≡ handle_in σ (view s) o
  pub is_object : object_in h ≡ o

module _ (σ P Q R : ℕ) (s : Store) (L : Ledger) (I : Inv σ P Q R s L) where
  -- ---- handles
  -- a handle with a line
  pub lined : (h : List ℕ) (kind : ℕ) → HasLine L.book h kind → (o : ℕ) × Lined σ s h kind o
  lined h kind x =
      let (o, v, e, f) = lined_current σ P Q R s L I h kind x in
      let n = names_at σ P Q R s L I h o ((view s).gen o) kind v e refl f in
      (o, record { below = n.below; reached = n.reached; type = n.same_type; own = e; is_object = (reach_passed s h o n.reached).is_object })

  -- a handle that is reached has a line
  pub reached_line : (h : List ℕ) → Below 256 h → (o : ℕ) → Reached s h o → HasLine L.book h (object_at s o).kind
  reached_line h b o w = (object_lines_lem σ P Q R s L I h (object_at s o).kind).0 (o, w.below, true_live s o w.live, sym (handle_reached s h o w b), refl)

  pub directory_reached : (h : List ℕ) (o : ℕ) → Lined σ s h 2 o → reach_directory s h ≡ passed o
  unfolding reach_directory
  directory_reached h o x = rw (x.reached, true_directory s o x.type)

  regular_reached : (h : List ℕ) (o : ℕ) → Lined σ s h 1 o → reach_regular s h ≡ passed o
  unfolding reach_regular
  regular_reached h o x = rw (x.reached, true_regular s o x.type)

  pub line_regular : (h : List ℕ) → HasLine L.book h 1 → (o : ℕ) × (reach_regular s h ≡ passed o)
  line_regular h x = let (o, z) = lined h 1 x in (o, regular_reached h o z)

  -- ---- a name in directory d, whose handle is h
  module _ (h text : List ℕ) (d : ℕ) (below : d < objects s) (type : (object_at s d).kind ≡ 2) (own : h ≡ handle_in σ (view s) d) where
    seen_type : (view s).kind d ≡ 2
    seen_type = kind_at s d below ∙ type

    -- none is found where no line stands there
    pub none_there : find_name s d text ≡ none → some_at h text L.book ≡ false
    none_there e = line_none σ P Q R s L I h text d seen_type own (no_name s I.valid.good_names d text e)

    there_none : some_at h text L.book ≡ false → find_name s d text ≡ none
    there_none e = go (find_name s d text) refl
      where
        go : (x : Option ℕ) → find_name s d text ≡ x → x ≡ none
        go none f = refl
        go (some n) f =
            true_false (sym (line_some σ P Q R s L I h text d seen_type own n (found_name_lem s I.valid.good_names d text n f).1) ∙ e)

    -- what is found there
    found_below : (n : ℕ) → find_name s d text ≡ some n → (name_at s n).child < objects s
    found_below n e =
        let (k, at) = found_name_lem s I.valid.good_names d text n e in
        let T = tree σ P Q R s L I in
        live_in s (name_at s n).child (omega (arith, T.flat.ends n at.0, ap (view s).kind (child_at s n k)))

    -- a line that stands there is found, with its object
    pub line_found_lem : (g : List ℕ) → HasName L.book h g text → (n : ℕ) × (find_name s d text ≡ some n) × (object_in g ≡ (name_at s n).child)
    line_found_lem g (l, m, a, b) = go (find_name s d text) refl
      where
        go : (x : Option ℕ) → find_name s d text ≡ x → (n : ℕ) × (find_name s d text ≡ some n) × (object_in g ≡ (name_at s n).child)
        go none f = true_false (sym (met L.book h text l m b) ∙ none_there f)
        go (some n) f =
            let (k, i, c, e) = found_line σ P Q R s L I h text d below own n f in
            let z = one_standing L.book (stand_apart σ P Q R s L I) l k m i (b ∙ sym e) in
            (n, f, ap object_in (sym a ∙ ap (λ (y : Line). y.handle) z ∙ c) ∙ object_seen σ P Q R s L I (name_at s n).child (found_below n f))

  -- ---- every request that asks for room
  module _ (x : Request) where
    abbrev state : State
    state = record { store = s; ledger = L }

    -- by the checks of the store, so by the book
    module _ (lent : Lent x) where
      part_below : (h : Part) → Below 256 (cut x.call h)
      part_below h = cut_below x.call h lent.bytes

      may_make : (p : NameIn) (d : ℕ) (invalid : Bool) → Reached s (directory_in x p) d × ((object_at s d).kind ≡ 2)
          → check_new (name_asked x p) invalid ≡ passed tt → MayMake L.book x p invalid
      may_make p d invalid (w, k) e =
          let (a, b, c) = new_each (name_asked x p) invalid e in
          record {
            in_directory = subst (HasLine L.book (directory_in x p)) k (reached_line (directory_in x p) (part_below p.directory) d w);
            good_name = a;
            no_dots = b;
            valid = c;
          }

      -- CREATE of a new file, by its manner
      in_manner : (p : NameIn) (manner : How) → Asks x (Call.Create p manner) → MayMake L.book x p (bad_attributes (settable_in manner))
          → some_at (directory_in x p) (name_asked x p) L.book ≡ false → AsksRoom state x (new_object (size_set (settable_in manner).size 0))
      unfolding bad_attributes
      in_manner p (How.Unchecked a) k m e = AsksRoom.by_create p (How.Unchecked a) a k (inl refl) m e
      in_manner p (How.Guarded a) k m e = AsksRoom.by_create p (How.Guarded a) a k (inr refl) m e
      in_manner p (How.Exclusive verifier) k m e = AsksRoom.by_exclusive p verifier k m e

      -- LINK
      pub link_book : (f : Part) (p : NameIn) (o d : ℕ) → MayAdd s (cut x.call f) (directory_in x p) (name_asked x p) o d
          → MayLink L.book x f p × (lines_of (cut x.call f) L.book ≡ namings s o)
      link_book f p o d m =
          let h = cut x.call f in
          let w = reach_passed s h o m.reached in
          let (v, y) = directory_passed s (directory_in x p) d m.directory in
          let live = live_at s (good σ P Q R s L I) o w.below w.live in
          let kind = regular_of (blocks s) (object_at s o) live (λ k. true_false (sym (true_directory s o k) ∙ m.file)) in (
            record {
              file = subst (HasLine L.book h) kind (reached_line h (part_below f) o w);
              place = may_make p d false (v, y) (new_all (name_asked x p) false m.name m.no_dots_lem refl);
              free_name = none_there (directory_in x p) (name_asked x p) d v.below y
                  (reached_own σ P Q R s L I (directory_in x p) (part_below p.directory) d v) m.fresh;
            },
            file_namings σ P Q R s L I h o (reached_own σ P Q R s L I h (part_below f) o w) (kind_at s o w.below ∙ kind),
          )

      pub by_book : {m : Room} → AsksStore s x m → AsksRoom state x m
      unfolding is_directory
      by_book (AsksStore.by_setattr h a g o k e₁ e₂ e₃ e₄) =
          let w = reach_passed s (cut x.call h) o e₁ in
          let z = w.is_object in
          subst (λ (i : ℕ). AsksRoom state x (growth (size_of s i) (size_set a.size (size_of s i)))) z
          (AsksRoom.by_setattr h a g (object_at s o).kind k (reached_line (cut x.call h) (part_below h) o w)
          (subst (λ (i : ℕ). differs g (object_at s i).ctime ≡ false) (sym z) e₂) e₃ e₄)
      by_book (AsksStore.by_write h offset n bytes o k e₁ e₂ l m) =
          let (w, y) = regular_passed s (cut x.call h) o e₁ in
          subst (λ (i : ℕ). AsksRoom state x (growth (size_of s i) (max (size_of s i) (offset + min n most_transfer_bytes)))) w.is_object
          (AsksRoom.by_write h offset n bytes k (subst (HasLine L.book (cut x.call h)) y (reached_line (cut x.call h) (part_below h) o w)) e₂ l m)
      by_book (AsksStore.by_create p manner d k e₁ e₂ e₃) =
          let (w, y) = directory_passed s (directory_in x p) d e₁ in
          in_manner p manner k (may_make p d (bad_attributes (settable_in manner)) (w, y) e₂)
          (none_there (directory_in x p) (name_asked x p) d w.below y (reached_own σ P Q R s L I (directory_in x p) (part_below p.directory) d w) e₃)
      by_book (AsksStore.by_recreate p a d n k e₁ e₂ e₃ e₄) =
          let (w, y) = directory_passed s (directory_in x p) d e₁ in
          let own = reached_own σ P Q R s L I (directory_in x p) (part_below p.directory) d w in
          let o = (name_at s n).child in
          let below = found_below (directory_in x p) (name_asked x p) d w.below y own n e₃ in
          let kind = regular_true s o e₄ in
          subst (λ (i : ℕ). AsksRoom state x (growth (size_of s i) (size_set a.size (size_of s i)))) (object_seen σ P Q R s L I o below)
          (AsksRoom.by_recreate p a (handle_of s o) k (may_make p d (bad_attributes a) (w, y) e₂)
          (found_line σ P Q R s L I (directory_in x p) (name_asked x p) d w.below own n e₃)
          ((object_lines_lem σ P Q R s L I (handle_of s o) 1).0 (o, below, true_live s o (omega (arith, kind)), refl, kind)))
      by_book (AsksStore.by_mkdir p a d k e₁ e₂ e₃) =
          let (w, y) = directory_passed s (directory_in x p) d e₁ in
          AsksRoom.by_mkdir p a k (may_make p d (bad_attributes a || is_given a.size) (w, y) e₂)
          (none_there (directory_in x p) (name_asked x p) d w.below y (reached_own σ P Q R s L I (directory_in x p) (part_below p.directory) d w) e₃)
      by_book (AsksStore.by_link f p o d k m few) = let (y, e) = link_book f p o d m in AsksRoom.by_link f p k y (omega (arith, e))

    -- by the book, so by the checks of the store
    new_checks : (p : NameIn) (invalid : Bool) → MayMake L.book x p invalid → check_new (name_asked x p) invalid ≡ passed tt
    new_checks p invalid m = new_all (name_asked x p) invalid m.good_name m.no_dots m.valid

    -- EXCLUSIVE CREATE of a file that keeps its verifier, by the book
    pub line_made : (p : NameIn) (verifier : ℕ) (h : List ℕ) → Asks x (Call.Create p (How.Exclusive verifier)) → MayMake L.book x p false
        → HasName L.book (directory_in x p) h (name_asked x p) → is_made_by s verifier (object_in h) ≡ true
        → (is_ok (reply_to s x) ≡ true) × ((outcome_of s x).store ≡ s)
    unfolding bad_attributes
    line_made p verifier h k m y t =
        let (d, z) = lined (directory_in x p) 2 m.in_directory in
        let (n, e, f) = line_found_lem (directory_in x p) (name_asked x p) d z.below z.type z.own h y in
        made_before_lem σ P Q R s L I x p verifier d n k (directory_reached (directory_in x p) d z) (new_checks p (bad_attributes only_ctime) m) e
        (subst (λ (i : ℕ). is_made_by s verifier i ≡ true) f t)

    -- CREATE of a new file, in any manner
    new_file_lem : (p : NameIn) (manner : How) → Asks x (Call.Create p manner) → MayMake L.book x p (bad_attributes (settable_in manner))
        → some_at (directory_in x p) (name_asked x p) L.book ≡ false → AsksStore s x (new_object (size_set (settable_in manner).size 0))
    new_file_lem p manner k m e =
        let (d, z) = lined (directory_in x p) 2 m.in_directory in
        AsksStore.by_create p manner d k (directory_reached (directory_in x p) d z) (new_checks p (bad_attributes (settable_in manner)) m)
        (there_none (directory_in x p) (name_asked x p) d z.below z.type z.own e)

    -- LINK
    pub link_store : (f : Part) (p : NameIn) → MayLink L.book x f p
        → (o : ℕ) × (d : ℕ) × MayAdd s (cut x.call f) (directory_in x p) (name_asked x p) o d × (lines_of (cut x.call f) L.book ≡ namings s o)
    unfolding is_directory
    link_store f p m =
        let (o, z) = lined (cut x.call f) 1 m.file in
        let (d, y) = lined (directory_in x p) 2 m.place.in_directory in (
          o,
          d,
          record {
            reached = z.reached;
            file = ap (λ (i : ℕ). eqb i 2) z.type;
            directory = directory_reached (directory_in x p) d y;
            name = m.place.good_name;
            no_dots_lem = m.place.no_dots;
            fresh = there_none (directory_in x p) (name_asked x p) d y.below y.type y.own m.free_name;
          },
          file_namings σ P Q R s L I (cut x.call f) o z.own (kind_at s o z.below ∙ z.type),
        )

    pub by_store : {m : Room} → AsksRoom state x m → AsksStore s x m
    unfolding is_directory bad_attributes
    by_store (AsksRoom.by_setattr h a g kind k y e₂ e₃ e₄) =
        let (o, z) = lined (cut x.call h) kind y in
        subst (λ (i : ℕ). AsksStore s x (growth (size_of s i) (size_set a.size (size_of s i)))) (sym z.is_object)
        (AsksStore.by_setattr h a g o k z.reached (subst (λ (i : ℕ). differs g (object_at s i).ctime ≡ false) z.is_object e₂) e₃
        (ap (λ (i : ℕ). is_given a.size && eqb i 2) z.type ∙ e₄))
    by_store (AsksRoom.by_write h offset n bytes k y e₂ l m) =
        let (o, z) = lined (cut x.call h) 1 y in
        subst (λ (i : ℕ). AsksStore s x (growth (size_of s i) (max (size_of s i) (offset + min n most_transfer_bytes)))) (sym z.is_object)
        (AsksStore.by_write h offset n bytes o k (regular_reached (cut x.call h) o z) e₂ l m)
    by_store (AsksRoom.by_create p manner a k which m e) =
        let set : settable_in manner ≡ a = ⊎_elim (λ (u : manner ≡ How.Unchecked a). ap settable_in u) (λ (u : manner ≡ How.Guarded a). ap settable_in u) which in
        subst (λ (b : Settable). AsksStore s x (new_object (size_set b.size 0))) set
        (new_file_lem p manner k (subst (λ (b : Settable). MayMake L.book x p (bad_attributes b)) (sym set) m) e)
    by_store (AsksRoom.by_exclusive p verifier k m e) = new_file_lem p (How.Exclusive verifier) k m e
    by_store (AsksRoom.by_recreate p a g k m y u) =
        let (d, z) = lined (directory_in x p) 2 m.in_directory in
        let (n, e, c) = line_found_lem (directory_in x p) (name_asked x p) d z.below z.type z.own g y in
        let (o, v) = lined g 1 u in
        subst (λ (i : ℕ). AsksStore s x (growth (size_of s i) (size_set a.size (size_of s i)))) (sym c)
        (AsksStore.by_recreate p a d n k (directory_reached (directory_in x p) d z) (new_checks p (bad_attributes a) m) e
        (true_regular s (name_at s n).child (ap (λ (i : ℕ). (object_at s i).kind) (sym c ∙ v.is_object) ∙ v.type)))
    by_store (AsksRoom.by_mkdir p a k m e) =
        let (d, z) = lined (directory_in x p) 2 m.in_directory in
        AsksStore.by_mkdir p a d k (directory_reached (directory_in x p) d z) (new_checks p (bad_attributes a || is_given a.size) m)
        (there_none (directory_in x p) (name_asked x p) d z.below z.type z.own e)
    by_store (AsksRoom.by_link f p k m few) = let (o, d, y, e) = link_store f p m in AsksStore.by_link f p o d k y (omega (arith, e))
