-- What the invariant says of the counts: lines, places, free names and available objects. Assumes nothing.
use mathlib.Core.Path.{◌≡◌, refl, sym, ap, ap₂, ◌∙◌, subst}
use mathlib.Core.Logic.{◌≢◌, ◌↔◌, ◌⊎◌, inl, inr, by_cases, ⊎_elim}
use mathlib.Core.Bool.{Bool, true, false, ◌&&◌, not}
use mathlib.Core.List.Memᴰ
use mathlib.Core.List.{List, [], ◌∷◌, map, Memᴰ}
use Prim.Native.Nat.{ℕ, ◌+◌, ◌*◌, ◌≤◌, ◌<◌}
use native.Mathlib.Decide.{ℕ_discrete, dec_lt}
use native.Mathlib.Nat.{mul-one, mul-zero}
use native.Mathlib.Omega.{arith}
use lib.Dec.{eqb, ltb}
use lib.ListN.{length, get_or}
use lib.Seq.{get_or-take}
use borrow.Author.Tests.{eq-eqb, ne_eqb, eqb-true, lt-ltb, le-ltb}
use Rattle.kinds.specs.Numbers.{most_file_bytes, spent_generation, most_links}
use Rattle.kinds.specs.declared.object.Object.{Object}
use Rattle.spec.specs.Bytes.{same_bytes}
use Rattle.spec.specs.Check.{most_names}
use Rattle.spec.specs.Count.{bit, sum, count, times}
use Rattle.spec.specs.Image.{Store, objects, names, blocks, object_at}
use Rattle.spec.specs.Room.{is_live, is_regular, is_available, is_used_name, namings, size_of, need, held, free_block_count, available_count, free_name_count}
use Rattle.laws.proofs.Bytes.{same_yes, same_no}
use Rattle.laws.proofs.Count.{sum_ext, sum_add, by_bool, true_false, and_both}
use Rattle.laws.proofs.FreeRoom.{free_room}
use Rattle.laws.proofs.Tests.{and_true, or_one}
use Rattle.laws.proofs.Valid.{GoodObject, live_true, true_live, false_live, regular_true, true_regular}
use Rattle.history.specs.Book.{Line, Book, Ledger, handle_bytes}
use Rattle.history.specs.Statement.{In, HasLine, lines_of, live_objects, object_in, some_line, is_lined_object, is_lined_file, lined_objects, places_in}
use Rattle.history.specs.Statement.{has_name, named_lines, is_among, is_lined, last_handle, spent_records}
use Rattle.history.proofs.Sum.{or_left, or_right, ind, ind_yes, ind_no, holds_same, sum_const}
use Rattle.history.proofs.Lists.{same_true, All, all_times}
use Rattle.history.proofs.View.{LiveIn, UsedIn, names?, namings_in}
use Rattle.history.proofs.Tree.{Tree, single, live?, living}
use Rattle.history.proofs.Handles.{same_object_lem, same_generation_lem, handle_object}
use Rattle.history.proofs.Agree.{handle_in, line_of, root_line, used?}
use Rattle.history.proofs.Issue.{issued, issued_small}
use Rattle.history.proofs.Room.{one_place_lem}
use Rattle.history.proofs.Seen.{view, held_by, kind_at, gen_at, held_at, live_in, used_of, of_used, namings_same}
use Rattle.history.proofs.Bridge.{held_long, room_of}
use Rattle.history.proofs.Inv.{Inv, tree, good}
use Rattle.history.proofs.Lines.{total, total_append, total_map, total_times, current_lined, lined_current, same_live, factor_no, factor_yes}

is_false : (t : Bool) → (t ≡ true → ⊥) → t ≡ false
is_false t f = by_bool t (λ e. absurd (f e)) (λ e. e)

-- ---- the tests of the book
pub among_in : (h : List ℕ) (gs : List (List ℕ)) → is_among h gs ≡ true → Memᴰ h gs
unfolding is_among
among_in h [] e = true_false (sym e)
among_in h (g ∷ gs) e = ⊎_elim
    (λ (x : same_bytes g h ≡ true). Memᴰ.head (sym (same_true g h x)))
    (λ (x : is_among h gs ≡ true). Memᴰ.tail (among_in h gs x))
    (or_one (same_bytes g h) (is_among h gs) e)

pub in_among : (h : List ℕ) (gs : List (List ℕ)) → Memᴰ h gs → is_among h gs ≡ true
unfolding is_among
in_among h [] m = absurd (Memᴰ.not-nil m)
in_among h (g ∷ gs) m = ⊎_elim
    (λ (e : h ≡ g). or_left (same_bytes g h) (is_among h gs) (same_yes g h (sym e)))
    (λ (x : Memᴰ h gs). or_right (same_bytes g h) (is_among h gs) (in_among h gs x))
    (Memᴰ.cases_cons m)

line_has : (test : Line → Bool) (b : Book) → some_line test b ≡ true → (l : Line) × Memᴰ l b × (test l ≡ true)
unfolding some_line
line_has test [] e = true_false (sym e)
line_has test (l ∷ ls) e = ⊎_elim
    (λ (x : test l ≡ true). (l, Memᴰ.head refl, x))
    (λ (x : some_line test ls ≡ true). let (k, m, y) = line_has test ls x in (k, Memᴰ.tail m, y))
    (or_one (test l) (some_line test ls) e)

has_line : (test : Line → Bool) (b : Book) (l : Line) → Memᴰ l b → test l ≡ true → some_line test b ≡ true
unfolding some_line
has_line test [] l m e = absurd (Memᴰ.not-nil m)
has_line test (k ∷ ks) l m e = ⊎_elim
    (λ (x : l ≡ k). or_left (test k) (some_line test ks) (ap test (sym x) ∙ e))
    (λ (x : Memᴰ l ks). or_right (test k) (some_line test ks) (has_line test ks l x e))
    (Memᴰ.cases_cons m)

lined_has : (h : List ℕ) (b : Book) → is_lined h b ≡ true → (l : Line) × Memᴰ l b × (l.handle ≡ h)
lined_has h b e = let (l, m, x) = line_has (λ l. same_bytes l.handle h) b e in (l, m, same_true l.handle h x)

has_lined : (h : List ℕ) (b : Book) (l : Line) → Memᴰ l b → l.handle ≡ h → is_lined h b ≡ true
has_lined h b l m e = has_line (λ l. same_bytes l.handle h) b l m (same_yes l.handle h e)

named_total : (b : Book) → named_lines b ≡ total (λ l. bit (has_name l.standing)) b
unfolding named_lines total
named_total [] = refl
named_total (l ∷ ls) = omega (arith, named_total ls)

lines_total : (h : List ℕ) (b : Book) → lines_of h b ≡ total (λ l. bit (same_bytes l.handle h)) b
unfolding lines_of total
lines_total h [] = refl
lines_total h (l ∷ ls) = omega (arith, lines_total h ls)

-- a file of size 0 has no places
no_need : (k size : ℕ) → size ≡ 0 → k * need size ≡ need size
no_need k size e = ap (λ (n : ℕ). k * need n) e ∙ mul-zero k ∙ ap need (sym e)

module _ (σ p q r : ℕ) (s : Store) (L : Ledger) (I : Inv σ p q r s L) where
  T : Tree p q (view s)
  T = tree σ p q r s L I

  live_bit : (i : ℕ) → i < objects s → ind (live? (view s) i) ≡ bit (is_live s i)
  live_bit i l = ap bit (holds_same (live? (view s) i) (is_live s i) (λ v. true_live s i (omega (arith, kind_at s i l)))
      (λ e. omega (arith, kind_at s i l, live_true s i e)))

  -- ---- the records that have a line are the live ones, and the files among them those that have a file's
  line_object : (l : Line) → Memᴰ l L.book → LiveIn (view s) (object_in l.handle) × ((view s).kind (object_in l.handle) ≡ l.kind)
  unfolding T
  line_object l m =
      let (o, v, e, f) = lined_current σ p q r s L I l.handle l.kind (l, m, refl, refl) in
      let i : object_in l.handle ≡ o = ap object_in e ∙ handle_object σ o ((view s).gen o) (omega (arith, T.flat.past o v, T.flat.few)) in
      (subst (LiveIn (view s)) (sym i) v, ap (view s).kind i ∙ f)

  object_line : (o : ℕ) → LiveIn (view s) o → (l : Line) × Memᴰ l L.book × (object_in l.handle ≡ o) × (l.kind ≡ (view s).kind o)
  unfolding T
  object_line o v =
      let (l, m, e, f) = current_lined σ p q r s L I o v in
      (l, m, ap object_in e ∙ handle_object σ o ((view s).gen o) (omega (arith, T.flat.past o v, T.flat.few)), f)

  lined_object : (o : ℕ) → (is_lined_object L.book o ≡ true) ↔ LiveIn (view s) o
  lined_object o = (
    (λ t. let (l, m, e) = line_has (λ l. eqb (object_in l.handle) o) L.book t in
        subst (LiveIn (view s)) (eqb-true (object_in l.handle) o e) (line_object l m).0),
    (λ v. let (l, m, e, f) = object_line o v in has_line (λ l. eqb (object_in l.handle) o) L.book l m (eq-eqb (object_in l.handle) o e)),
  )

  file_lined : (o : ℕ) → (view s).kind o ≡ 1 → is_lined_file L.book o ≡ true
  file_lined o k =
      let (l, m, e, f) = object_line o (omega arith) in
      has_line (λ l. eqb (object_in l.handle) o && eqb l.kind 1) L.book l m
      (and_true (eqb (object_in l.handle) o) (eqb l.kind 1) (eq-eqb (object_in l.handle) o e) (eq-eqb l.kind 1 (f ∙ k)))

  pub living_count : living p (view s) ≡ live_objects s
  unfolding live_objects
  living_count = ap (λ (n : ℕ). sum n (λ i. ind (live? (view s) i))) (sym I.objs) ∙ sum_ext (objects s) (λ i. ind (live? (view s) i))
      (λ i. bit (is_live s i)) live_bit

  line_living : lined_objects p L.book ≡ living p (view s)
  unfolding lined_objects
  line_living = sum_ext p (λ i. bit (is_lined_object L.book i)) (λ i. ind (live? (view s) i))
      (λ i l. ap bit (sym (holds_same (live? (view s) i) (is_lined_object L.book i) (lined_object i).1 (lined_object i).0)))

  pub line_count_lem : lined_objects p L.book ≡ live_objects s
  line_count_lem = line_living ∙ living_count

  -- ---- a sum over the lines: one for each used name, and the root's
  book_total : (N : Line → ℕ) → total N L.book ≡ sum q (λ n. ind (used? (view s) n) * N (line_of σ (view s) n)) + N (root_line σ (view s))
  unfolding total T
  book_total N =
      let v = view s in
      let A = I.agrees in
      let below : All (λ n. n < q) A.order = all_times A.order (λ n h. T.flat.rows n (used_order n h)) in
      ap (total N) A.lines ∙ total_append N (map (line_of σ v) A.order) (root_line σ v ∷ [])
      ∙ omega (
        arith,
        total_map N (line_of σ v) A.order,
        total_times q (λ n. N (line_of σ v n)) A.order below,
        sum_ext q (λ n. times n A.order * N (line_of σ v n)) (λ n. ind (used? v n) * N (line_of σ v n))
            (λ n l. ap (λ (k : ℕ). k * N (line_of σ v n)) (A.each n)),
      )
    where
      used_order : (n : ℕ) → 0 < times n I.agrees.order → UsedIn (view s) n
      used_order n h = by_cases (used? (view s) n) (λ u. u) (λ u. absurd (omega (arith, I.agrees.each n, ind_no (used? (view s) n) u)))

  pub name_line_count_lem : named_lines L.book ≡ count (names s) (is_used_name s)
  name_line_count_lem =
      named_total L.book ∙ book_total (λ l. bit (has_name l.standing))
      ∙ omega (
        arith,
        sum_ext q (λ n. ind (used? (view s) n) * 1) (λ n. bit (is_used_name s n)) (λ n l. mul-one (ind (used? (view s) n)) ∙ used_bit n (omega (arith, I.nams))),
        ap (λ (k : ℕ). count k (is_used_name s)) I.nams,
      )
    where
      used_bit : (n : ℕ) → n < names s → ind (used? (view s) n) ≡ bit (is_used_name s n)
      used_bit n l = ap bit (holds_same (used? (view s) n) (is_used_name s n) (used_of s I.valid.good_names n l) (of_used s I.valid.good_names n l))

  -- a live object has a line for each of its names, and the root its own
  line_namings : (o : ℕ) → LiveIn (view s) o → lines_of (handle_in σ (view s) o) L.book ≡ namings s o + bit (eqb o 0)
  unfolding T
  line_namings o v =
      let h = handle_in σ (view s) o in
      lines_total h L.book ∙ book_total (λ l. bit (same_bytes l.handle h))
      ∙ omega (
        arith,
        root_term,
        sum_ext q (λ n. ind (used? (view s) n) * bit (same_bytes (handle_in σ (view s) ((view s).child n)) h)) (λ n. ind (names? (view s) n o)) (λ n l. term n),
        ap (λ (k : ℕ). namings_in k (view s) o) I.nams,
        namings_same s I.valid.good_names o,
      )
    where
      root_term : bit (same_bytes (handle_in σ (view s) 0) (handle_in σ (view s) o)) ≡ bit (eqb o 0)
      root_term = by_cases (ℕ_discrete o 0)
          (λ e. ap bit (same_yes (handle_in σ (view s) 0) (handle_in σ (view s) o) (ap (handle_in σ (view s)) (sym e)) ∙ sym (eq-eqb o 0 e)))
          (λ d. ap bit (same_no (handle_in σ (view s) 0) (handle_in σ (view s) o)
          (λ e. d (sym (same_live σ p q r s L I 0 o (omega (arith, T.flat.root)) v e))) ∙ sym (ne_eqb o 0 d)))

      term : (n : ℕ) → ind (used? (view s) n) * bit (same_bytes (handle_in σ (view s) ((view s).child n)) (handle_in σ (view s) o)) ≡ ind (names? (view s) n o)
      term n =
          let h = handle_in σ (view s) o in
          let g = handle_in σ (view s) ((view s).child n) in
          by_cases (used? (view s) n)
          (λ u. factor_yes (ind (used? (view s) n)) (bit (same_bytes g h)) (ind_yes (used? (view s) n) u)
          ∙ by_cases (ℕ_discrete ((view s).child n) o)
          (λ e. ap bit (same_yes g h (ap (handle_in σ (view s)) e)) ∙ sym (ind_yes (names? (view s) n o) (u, e)))
          (λ d. ap bit (same_no g h (λ e. d (same_live σ p q r s L I ((view s).child n) o (T.flat.ends n u) v e)))
          ∙ sym (ind_no (names? (view s) n o) (λ x. d x.1))))
          (λ u. factor_no (ind (used? (view s) n)) (bit (same_bytes g h)) (ind_no (used? (view s) n) u) ∙ sym (ind_no (names? (view s) n o) (λ x. u x.0)))

  -- so a file has as many lines as names
  pub file_namings : (h : List ℕ) (o : ℕ) → h ≡ handle_in σ (view s) o → (view s).kind o ≡ 1 → lines_of h L.book ≡ namings s o
  unfolding T
  file_namings h o e k = omega (
    arith,
    ap (λ (x : List ℕ). lines_of x L.book) e,
    line_namings o (omega arith),
    ap bit (ne_eqb o 0 (λ z. omega (arith, T.flat.root, ap (view s).kind z))),
  )

  -- and a directory has one line
  pub directory_line_lem : (h : List ℕ) → HasLine L.book h 2 → lines_of h L.book ≡ 1
  unfolding T
  directory_line_lem h x =
      let (o, v, e, k) = lined_current σ p q r s L I h 2 x in
      let lines = ap (λ (y : List ℕ). lines_of y L.book) e ∙ line_namings o v in
      let seen = sym (namings_same s I.valid.good_names o) ∙ ap (λ (n : ℕ). namings_in n (view s) o) I.nams in
      by_cases (ℕ_discrete o 0)
      (λ z. omega (arith, lines, seen, ap bit (eq-eqb o 0 z), T.flat.never, ap (namings_in q (view s)) z))
      (λ z. omega (arith, lines, seen, ap bit (ne_eqb o 0 z), T.flat.once o z v, single p q (view s) T.flat o k))

  -- "one to sixteen names"
  pub file_names_lem : (o : ℕ) → o < objects s → is_regular s o ≡ true → (1 ≤ namings s o) × (namings s o ≤ most_links)
  file_names_lem o l t =
      let k = regular_true s o t in
      let z : o ≢ 0 = λ e. omega (arith, I.valid.root, ap (λ (i : ℕ). (object_at s i).kind) e) in
      (I.valid.named.named o l z (omega arith), omega (arith, I.valid.named.few o l z (omega arith), ap most_names k))

  pub file_lines_lem : (h : List ℕ) → HasLine L.book h 1 → (1 ≤ lines_of h L.book) × (lines_of h L.book ≤ most_links)
  file_lines_lem h x =
      let (o, v, e, f) = lined_current σ p q r s L I h 1 x in
      let l = live_in s o v in
      let n = file_names_lem o l (true_regular s o (sym (kind_at s o l) ∙ f)) in
      let a = file_namings h o e f in
      (omega arith, omega arith)

  -- "free names Q less the lines with a name"
  pub free_names_lem : free_name_count s + named_lines L.book ≡ q
  unfolding free_name_count
  free_names_lem = omega (
    arith,
    name_line_count_lem,
    sum_add (names s) (λ n. bit (not (is_used_name s n))) (λ n. bit (is_used_name s n)),
    sum_ext (names s) (λ n. bit (not (is_used_name s n)) + bit (is_used_name s n)) (λ n. 1) (λ n _. one_of (is_used_name s n)),
    sum_const (names s),
    I.nams,
  )
    where
      one_of : (t : Bool) → bit (not t) + bit t ≡ 1
      one_of true = refl
      one_of false = refl

  -- ---- a live file's places are what its size needs, and no other object needs any
  file_blocks_lem : (i : ℕ) → i < objects s → bit (is_lined_file L.book i) * need (size_of s i) ≡ need (size_of s i)
  unfolding size_of
  file_blocks_lem i l = go (I.valid.good_objects i l)
    where
      lined : ℕ
      lined = bit (is_lined_file L.book i)

      by_size : (((object_at s i).kind ≡ 1) × ((object_at s i).size ≤ most_file_bytes)) ⊎ (((object_at s i).kind ≡ 2) × ((object_at s i).size ≡ 0))
          → lined * need (object_at s i).size ≡ need (object_at s i).size
      by_size (◌⊎◌.inl a) = factor_yes lined (need (object_at s i).size) (ap bit (file_lined i (kind_at s i l ∙ a.0)))
      by_size (◌⊎◌.inr a) = no_need lined (object_at s i).size a.1

      go : GoodObject (blocks s) (object_at s i) → lined * need (object_at s i).size ≡ need (object_at s i).size
      go (◌⊎◌.inl f) = no_need lined (object_at s i).size (ap (λ (v : Object). v.size) f)
      go (◌⊎◌.inr x) = by_size x.size

  -- ---- "Free blocks are R less the places"
  pub free_blocks_lem : free_block_count s + places_in p s L.book ≡ r
  unfolding places_in
  free_blocks_lem = omega (
    arith,
    sum_ext p (λ i. bit (is_lined_file L.book i) * need (size_of s i)) (λ i. need (size_of s i)) (λ i l. file_blocks_lem i (omega (arith, I.objs))),
    free_room s (good σ p q r s L I),
    ap (λ (n : ℕ). sum n (λ i. need (size_of s i))) I.objs,
    I.blks,
  )

  held_block : (i k : ℕ) → k < need (size_of s i) → get_or (held s i) k 0 ≡ get_or (object_at s i).blocks k 0
  unfolding held
  held_block i k m = get_or-take (need (size_of s i)) (object_at s i).blocks k 0 m

  -- no block serves two places
  pub one_block : (i j k l : ℕ) → i < objects s → j < objects s → k < need (size_of s i) → l < need (size_of s j)
      → get_or (object_at s i).blocks k 0 ≡ get_or (object_at s j).blocks l 0 → (i ≡ j) × (k ≡ l)
  one_block i j k l a b m n e =
      let x = held_at s i a in
      let y = held_at s j b in
      one_place_lem (objects s) (blocks s) (held_by s) (room_of s I.valid) i j k l
      (omega (arith, ap length x, held_long s I.valid i a)) (omega (arith, ap length y, held_long s I.valid j b))
      (ap (λ (z : List ℕ). get_or z k 0) x ∙ held_block i k m ∙ e ∙ sym (held_block j l n) ∙ ap (λ (z : List ℕ). get_or z l 0) (sym y))

  -- ---- handles
  pub line_given_lem : (h : List ℕ) (kind : ℕ) → HasLine L.book h kind → In h L.given
  line_given_lem h kind x =
      let (o, v, e, f) = lined_current σ p q r s L I h kind x in
      (I.issues.each h).1 (o, (view s).gen o, e, omega (arith, ind_yes (live? (view s) o) v))

  -- a handle that was given out is that of a live object, or of an earlier generation than its object's, or of one that is free
  pub given_or : (o g : ℕ) → g < issued (view s) o → (LiveIn (view s) o × (g ≡ (view s).gen o)) ⊎ (g < (view s).gen o)
  given_or o g l = by_cases (live? (view s) o)
      (λ v. by_cases (ℕ_discrete g ((view s).gen o)) (λ e. inl (v, e)) (λ n. inr (omega (arith, ind_yes (live? (view s) o) v))))
      (λ v. inr (omega (arith, ind_no (live? (view s) o) v)))

  -- ---- spent records
  last_gen : (i : ℕ) → i < p → (is_among (last_handle σ i) L.given && not (is_lined (last_handle σ i) L.book) ≡ true) ↔
      (((view s).kind i ≡ 0) × ((view s).gen i ≡ spent_generation))
  unfolding T
  last_gen i l = (
    (λ e. let (a, b) = and_both (is_among (last_handle σ i) L.given) (not (is_lined (last_handle σ i) L.book)) e in
        let (o, g, y, k) = (I.issues.each (last_handle σ i)).0 (among_in (last_handle σ i) L.given a) in
        let z = issued_small p σ (view s) L.given I.issues o g k in
        let is : i ≡ o = same_object_lem σ i 4294967294 o g (omega (arith, T.flat.few)) z.1 y in
        let ig : 4294967294 ≡ g = same_generation_lem σ i 4294967294 o g (omega arith) z.2 y in
        let more : 4294967294 < issued (view s) i = omega (arith, ap (issued (view s)) is) in
        by_cases (live? (view s) i)
        (λ v. let n : (view s).gen i ≡ 4294967294 = omega (arith, I.issues.few i, ind_yes (live? (view s) i) v) in
        let (x, m, c, d) = current_lined σ p q r s L I i v in
        true_false (sym b ∙ ap not (has_lined (last_handle σ i) L.book x m (c ∙ ap (handle_bytes σ i) n))))
        (λ v. (omega arith, omega (arith, I.issues.few i, ind_no (live? (view s) i) v)))),
    (λ x. and_true (is_among (last_handle σ i) L.given) (not (is_lined (last_handle σ i) L.book))
        (in_among (last_handle σ i) L.given ((I.issues.each (last_handle σ i)).1 (i, 4294967294, refl, omega (arith, x.1))))
        (by_bool (is_lined (last_handle σ i) L.book)
        (λ t. let (k, m, e) = lined_has (last_handle σ i) L.book t in
        let (o, v, f, g) = lined_current σ p q r s L I (last_handle σ i) k.kind (k, m, e, refl) in
        let is : i ≡ o = same_object_lem σ i 4294967294 o ((view s).gen o) (omega (arith, T.flat.few)) (omega (arith, T.flat.past o v, T.flat.few)) f in
        absurd (omega (arith, x.0, ap (view s).kind is)))
        (λ t. ap not t))),
  )

  -- a record is available, live or spent
  one_of : (i : ℕ) → i < p → bit (is_available s i)
      + (ind (live? (view s) i) + bit (is_among (last_handle σ i) L.given && not (is_lined (last_handle σ i) L.book))) ≡ 1
  unfolding is_available
  one_of i l =
      let k : i < objects s = omega (arith, I.objs) in
      let X = is_among (last_handle σ i) L.given && not (is_lined (last_handle σ i) L.book) in
      let g = (object_at s i).generation in
      let e = gen_at s i k in
      by_cases (live? (view s) i)
      (λ v. let a : is_available s i ≡ false = ap (λ (b : Bool). not b && ltb g spent_generation) (true_live s i (omega (arith, kind_at s i k))) in
      let b : X ≡ false = is_false X (λ t. omega (arith, (last_gen i l).0 t)) in
      omega (arith, ap bit a, ap bit b, ind_yes (live? (view s) i) v))
      (λ v. let dead : is_live s i ≡ false = false_live s i (omega (arith, kind_at s i k)) in
      by_cases (dec_lt ((view s).gen i) spent_generation)
      (λ m. let a : is_available s i ≡ true = ap₂ (λ (b c : Bool). not b && c) dead (lt-ltb g spent_generation (omega arith)) in
      let b : X ≡ false = is_false X (λ t. omega (arith, (last_gen i l).0 t)) in
      omega (arith, ap bit a, ap bit b, ind_no (live? (view s) i) v))
      (λ m. let a : is_available s i ≡ false = ap₂ (λ (b c : Bool). not b && c) dead (le-ltb g spent_generation (omega arith)) in
      let b : X ≡ true = (last_gen i l).1 (omega arith, omega (arith, I.issues.few i)) in
      omega (arith, ap bit a, ap bit b, ind_no (live? (view s) i) v)))

  -- "available objects P less the live ones and the records whose handle of generation 4,294,967,294 was removed"
  pub available_objects : available_count s + (lined_objects p L.book + spent_records σ p L) ≡ p
  unfolding available_count spent_records
  available_objects =
      let S : ℕ → ℕ = λ i. bit (is_among (last_handle σ i) L.given && not (is_lined (last_handle σ i) L.book)) in
      omega (
        arith,
        line_living,
        ap (λ (n : ℕ). count n (is_available s)) I.objs,
        sum_add p (λ i. bit (is_available s i)) (λ i. ind (live? (view s) i) + S i),
        sum_add p (λ i. ind (live? (view s) i)) S,
        sum_ext p (λ i. bit (is_available s i) + (ind (live? (view s) i) + S i)) (λ i. 1) one_of,
        sum_const p,
      )
