-- Readers that do not look at padding: they read the same of two calls that differ only there, and of the fields that they list they take the
-- same bytes. One law for each way to build a reader. Assumes nothing.
use Prim.Native.Nat.{ℕ, ◌+◌, ◌≤◌, ◌<◌}
use native.Mathlib.Omega.{arith}
use mathlib.Core.Bool.{Bool, true, false, cond, ◌||◌}
use mathlib.Core.List.{List, [], ◌∷◌, ◌++◌, append_assoc, append-nil}
use mathlib.Core.Logic.{⊎_elim}
use mathlib.Core.Path.{◌≡◌, refl, sym, ap, ap₂, subst, ◌∙◌}
use lib.Dec.{leb, eqb}
use lib.ListN.{length, get_or}
use Rattle.kinds.specs.Reading.{Read, got, bad}
use Rattle.kinds.specs.declared.call.Part.{Part}
use Rattle.spec.specs.Bytes.{be_of, be_at}
use Rattle.spec.specs.Procedures.{cut}
use Rattle.spec.specs.Xdr.{Reader, bind, ◌>>=◌, done, only_if, check, placed, item, number, end}
use Rattle.laws.proofs.Bytes.{same_part}
use Rattle.laws.proofs.Count.{true_false, by_bool}
use Rattle.laws.proofs.Tests.{or_one}
use Rattle.laws.proofs.Readers.{Built}
use Rattle.laws.proofs.Xdr.{never, same_value, same_end, only_if_got, placed_got, same_place, only_if_bad, placed_bad}
use Rattle.laws_padding.specs.Fields.{Fields, no_fields, behind}
use Rattle.laws_padding.specs.Alike.{in_padding, in_paddings}

-- ---- padding in lists of fields
pad_append : (fs gs : List Part) (i : ℕ) → in_paddings (fs ++ gs) i ≡ in_paddings fs i || in_paddings gs i
unfolding in_paddings
pad_append [] gs i = refl
pad_append (f ∷ fs) gs i = ap (λ (b : Bool). in_padding f i || b) (pad_append fs gs i) ∙ or_assoc (in_padding f i) (in_paddings fs i) (in_paddings gs i)
  where
    or_assoc : (t u v : Bool) → t || (u || v) ≡ (t || u) || v
    or_assoc true u v = refl
    or_assoc false u v = refl

-- ---- readers
-- index i lies before the place at which a reader ended; where it refused, anywhere
abbrev pub Before : {A : Type 0} → Read A → ℕ → Type 0
Before (got a next) i = i < next
Before (bad p) i = Unit {0}

-- the bytes of each field
abbrev pub SameCuts : List ℕ → List ℕ → List Part → Type 0
SameCuts s t [] = Unit {0}
SameCuts s t (f ∷ fs) = (cut t f ≡ cut s f) × SameCuts s t fs

same_cuts_append : (s t : List ℕ) (fs gs : List Part) → SameCuts s t fs → SameCuts s t gs → SameCuts s t (fs ++ gs)
same_cuts_append s t [] gs f g = g
same_cuts_append s t (x ∷ fs) gs f g = (f.0, same_cuts_append s t fs gs f.1 g)

-- the same bytes from `at` on, as far as a reader read, but in the padding of the fields fs
abbrev pub SameWhereRead : {A : Type 0} → List ℕ → List ℕ → ℕ → Read A → List Part → Type 0
SameWhereRead s t at r fs = (i : ℕ) → at ≤ i → Before r i → in_paddings fs i ≡ false → get_or t i 0 ≡ get_or s i 0

-- a reader p of the call s, with the fields F that it lists, the parts that were read before it, and the parts of what it gives; t is another call
pub record ReadsAlike (s t : List ℕ) {A : Type 0} (p : Reader A) (F : Fields) (before : List Part) (parts : A → List Part) : Type 0 where
  -- it goes forward, and the padding of its fields lies where it reads
  pub ahead : (at i : ℕ) → in_paddings (F s at) i ≡ true → at ≤ i
  pub onward : (at : ℕ) (a : A) (next : ℕ) → p s at ≡ got a next → at ≤ next
  pub inside : (at : ℕ) (a : A) (next : ℕ) → p s at ≡ got a next → (i : ℕ) → in_paddings (F s at) i ≡ true → i < next
  -- where it refuses, the word at that place is no padding
  pub behind_start : (at q : ℕ) → p s at ≡ bad q → at ≤ q
  pub clear : (at q : ℕ) → p s at ≡ bad q → (i : ℕ) → q ≤ i → i < q + 4 → in_paddings (F s at) i ≡ false
  -- whatever the padding: it reads the same of t, and its fields stand at the same places, with the same bytes
  pub same : (at : ℕ) → SameWhereRead s t at (p s at) (F s at) → p t at ≡ p s at
  pub listing : (at : ℕ) → SameWhereRead s t at (p s at) (F s at) → F t at ≡ F s at
  pub cuts : (at : ℕ) → SameWhereRead s t at (p s at) (F s at) → SameCuts s t (F s at)
  -- what it gives consists of the parts before it and of its fields
  pub listed : (at : ℕ) (a : A) (next : ℕ) → p s at ≡ got a next → before ++ F s at ≡ parts a

-- where there is no field there is no padding
pub none_padded : (i : ℕ) → in_paddings [] i ≡ false
unfolding in_paddings
none_padded i = refl

pub no_pad : {A : Type 0} (i : ℕ) → in_paddings [] i ≡ true → A
unfolding in_paddings
no_pad i e = true_false (sym e)

module _ (s t : List ℕ) (long : length t ≡ length s) where
  -- reads nothing
  pub alike_done : {A : Type 0} (a : A) (before : List Part) (parts : A → List Part) → before ≡ parts a → ReadsAlike s t (done a) no_fields before parts
  alike_done a before parts e =
      record {
        ahead = λ at i h. no_pad i h;
        onward = λ at b next f. omega (arith, same_end a b at next f);
        inside = λ at b next f i h. no_pad i h;
        behind_start = λ at q f. absurd (never q a at (sym f));
        clear = λ at q f i l m. none_padded i;
        same = λ at same_bytes. refl;
        listing = λ at same_bytes. refl;
        cuts = λ at same_bytes. tt;
        listed = λ at b next f. append-nil before ∙ e ∙ ap parts (same_value a b at next f);
      }

  -- ---- one reader after the other
  module _ {A B : Type 0} (p : Reader A) (k : A → Reader B) (F : Fields) (K : A → Fields) (before : List Part) (mid : A → List Part)
      (parts : B → List Part) (f : ReadsAlike s t p F before mid) (g : (a : A) → ReadsAlike s t (k a) (K a) (mid a) parts) where
    abbrev both : ℕ → Read A → List Part
    both at r = F s at ++ behind r (λ a next. K a s next)

    abbrev all : Read A → Read B
    all r = bind r (λ a next. k a s next)

    either : {P : Type 0} (at i : ℕ) (r : Read A) → in_paddings (both at r) i ≡ true → (in_paddings (F s at) i ≡ true → P)
        → (in_paddings (behind r (λ a next. K a s next)) i ≡ true → P) → P
    either at i r h x y = ⊎_elim x y (or_one _ _ (sym (pad_append (F s at) (behind r (λ a next. K a s next)) i) ∙ h))

    neither : (at i : ℕ) (r : Read A) → in_paddings (F s at) i ≡ false → in_paddings (behind r (λ a next. K a s next)) i ≡ false
        → in_paddings (both at r) i ≡ false
    neither at i r x y = pad_append (F s at) (behind r (λ a next. K a s next)) i ∙ rw (x, y)

    -- the second reader ends behind the first
    reaches : (a : A) (next i : ℕ) → i < next → (r : Read B) → k a s next ≡ r → Before r i
    reaches a next i l (got b last) e = omega (arith, (g a).onward next b last e)
    reaches a next i l (bad q) e = tt

    pub first_where_read : (at : ℕ) (r : Read A) → p s at ≡ r → SameWhereRead s t at (all r) (both at r) → SameWhereRead s t at (p s at) (F s at)
    first_where_read at (got a next) e same_bytes i l b out =
        let h : i < next = subst (λ (r : Read A). Before r i) e b in
        same_bytes i l (reaches a next i h (k a s next) refl) (neither at i (got a next) out
        (by_bool (in_paddings (K a s next) i) (λ w. absurd (omega (arith, (g a).ahead next i w))) (λ w. w)))
    first_where_read at (bad q) e same_bytes i l b out = same_bytes i l tt (neither at i (bad q) out (none_padded i))

    pub second_where_read : (at : ℕ) (a : A) (next : ℕ) → p s at ≡ got a next → SameWhereRead s t at (k a s next) (both at (got a next))
        → SameWhereRead s t next (k a s next) (K a s next)
    second_where_read at a next e same_bytes i l b out =
        same_bytes i (omega (arith, f.onward at a next e)) b (neither at i (got a next)
        (by_bool (in_paddings (F s at) i) (λ w. absurd (omega (arith, f.inside at a next e i w))) (λ w. w)) out)

    then_ahead : (at i : ℕ) (r : Read A) → p s at ≡ r → in_paddings (both at r) i ≡ true → at ≤ i
    then_ahead at i (got a next) e h =
        either at i (got a next) h (λ w. f.ahead at i w) (λ w. omega (arith, f.onward at a next e, (g a).ahead next i w))
    then_ahead at i (bad q) e h = either at i (bad q) h (λ w. f.ahead at i w) (λ w. no_pad i w)

    then_onward : (at : ℕ) (r : Read A) → p s at ≡ r → (b : B) (last : ℕ) → all r ≡ got b last → at ≤ last
    then_onward at (got a next) e b last h = omega (arith, f.onward at a next e, (g a).onward next b last h)
    then_onward at (bad q) e b last h = absurd (never q b last h)

    then_inside : (at : ℕ) (r : Read A) → p s at ≡ r → (b : B) (last : ℕ) → all r ≡ got b last → (i : ℕ) → in_paddings (both at r) i ≡ true → i < last
    then_inside at (got a next) e b last h i w =
        either at i (got a next) w (λ x. omega (arith, f.inside at a next e i x, (g a).onward next b last h)) (λ x. (g a).inside next b last h i x)
    then_inside at (bad q) e b last h i w = absurd (never q b last h)

    then_start : (at : ℕ) (r : Read A) → p s at ≡ r → (q : ℕ) → all r ≡ bad q → at ≤ q
    then_start at (got a next) e q h = omega (arith, f.onward at a next e, (g a).behind_start next q h)
    then_start at (bad place) e q h = omega (arith, f.behind_start at place e, same_place place q h)

    then_clear : (at : ℕ) (r : Read A) → p s at ≡ r → (q : ℕ) → all r ≡ bad q → (i : ℕ) → q ≤ i → i < q + 4 → in_paddings (both at r) i ≡ false
    then_clear at (got a next) e q h i l m =
        neither at i (got a next)
        (by_bool (in_paddings (F s at) i) (λ w. absurd (omega (arith, f.inside at a next e i w, (g a).behind_start next q h))) (λ w. w))
        ((g a).clear next q h i l m)
    then_clear at (bad place) e q h i l m =
        let z = same_place place q h in
        neither at i (bad place) (f.clear at place e i (omega arith) (omega arith)) (none_padded i)

    then_same : (at : ℕ) (r : Read A) → p s at ≡ r → SameWhereRead s t at (all r) (both at r) → bind (p t at) (λ a next. k a t next) ≡ all r
    then_same at (got a next) e same_bytes =
        ap (λ (r : Read A). bind r (λ b n. k b t n)) (f.same at (first_where_read at (got a next) e same_bytes) ∙ e)
        ∙ (g a).same next (second_where_read at a next e same_bytes)
    then_same at (bad q) e same_bytes = ap (λ (r : Read A). bind r (λ b n. k b t n)) (f.same at (first_where_read at (bad q) e same_bytes) ∙ e)

    then_listing : (at : ℕ) (r : Read A) → p s at ≡ r → SameWhereRead s t at (all r) (both at r)
        → F t at ++ behind (p t at) (λ a next. K a t next) ≡ both at r
    then_listing at (got a next) e same_bytes =
        let w = first_where_read at (got a next) e same_bytes in
        ap₂ (λ (l : List Part) (r : Read A). l ++ behind r (λ b n. K b t n)) (f.listing at w) (f.same at w ∙ e)
        ∙ ap (λ (l : List Part). F s at ++ l) ((g a).listing next (second_where_read at a next e same_bytes))
    then_listing at (bad q) e same_bytes =
        let w = first_where_read at (bad q) e same_bytes in
        ap₂ (λ (l : List Part) (r : Read A). l ++ behind r (λ b n. K b t n)) (f.listing at w) (f.same at w ∙ e)

    then_cuts : (at : ℕ) (r : Read A) → p s at ≡ r → SameWhereRead s t at (all r) (both at r) → SameCuts s t (both at r)
    then_cuts at (got a next) e same_bytes =
        same_cuts_append s t (F s at) (K a s next) (f.cuts at (first_where_read at (got a next) e same_bytes))
        ((g a).cuts next (second_where_read at a next e same_bytes))
    then_cuts at (bad q) e same_bytes = same_cuts_append s t (F s at) [] (f.cuts at (first_where_read at (bad q) e same_bytes)) tt

    then_listed : (at : ℕ) (r : Read A) → p s at ≡ r → (b : B) (last : ℕ) → all r ≡ got b last → before ++ both at r ≡ parts b
    then_listed at (got a next) e b last h =
        sym (append_assoc before (F s at) (K a s next)) ∙ ap (λ (l : List Part). l ++ K a s next) (f.listed at a next e) ∙ (g a).listed next b last h
    then_listed at (bad q) e b last h = absurd (never q b last h)

    pub alike_then : ReadsAlike s t (p >>= k) (λ call at. F call at ++ behind (p call at) (λ a next. K a call next)) before parts
    alike_then =
        record {
          ahead = λ at i h. then_ahead at i (p s at) refl h;
          onward = λ at b last h. then_onward at (p s at) refl b last h;
          inside = λ at b last h i w. then_inside at (p s at) refl b last h i w;
          behind_start = λ at q h. then_start at (p s at) refl q h;
          clear = λ at q h i l m. then_clear at (p s at) refl q h i l m;
          same = λ at same_bytes. then_same at (p s at) refl same_bytes;
          listing = λ at same_bytes. then_listing at (p s at) refl same_bytes;
          cuts = λ at same_bytes. then_cuts at (p s at) refl same_bytes;
          listed = λ at b last h. then_listed at (p s at) refl b last h;
        }

  -- a reader lists the same fields by another definition
  alike_as : {A : Type 0} (p : Reader A) (F G : Fields) (before : List Part) (parts : A → List Part)
      → ((call : List ℕ) (at : ℕ) → F call at ≡ G call at) → ReadsAlike s t p F before parts → ReadsAlike s t p G before parts
  alike_as p F G before parts e f =
      record {
        ahead = λ at i h. f.ahead at i (ap (λ (l : List Part). in_paddings l i) (e s at) ∙ h);
        onward = f.onward;
        inside = λ at a next h i w. f.inside at a next h i (ap (λ (l : List Part). in_paddings l i) (e s at) ∙ w);
        behind_start = f.behind_start;
        clear = λ at q h i l m. ap (λ (l : List Part). in_paddings l i) (sym (e s at)) ∙ f.clear at q h i l m;
        same = λ at same_bytes. f.same at (as_listed at same_bytes);
        listing = λ at same_bytes. sym (e t at) ∙ f.listing at (as_listed at same_bytes) ∙ e s at;
        cuts = λ at same_bytes. subst (SameCuts s t) (e s at) (f.cuts at (as_listed at same_bytes));
        listed = λ at a next h. ap (λ (l : List Part). before ++ l) (sym (e s at)) ∙ f.listed at a next h;
      }
    where
      as_listed : (at : ℕ) → SameWhereRead s t at (p s at) (G s at) → SameWhereRead s t at (p s at) (F s at)
      as_listed at w = subst (λ (l : List Part). SameWhereRead s t at (p s at) l) (sym (e s at)) w

  -- parts that were read before stay before
  pub alike_before : {A : Type 0} (p : Reader A) (F : Fields) (before : List Part) (parts : A → List Part) → ReadsAlike s t p F [] parts
      → ReadsAlike s t p F before (λ a. before ++ parts a)
  alike_before p F before parts f =
      record {
        ahead = f.ahead;
        onward = f.onward;
        inside = f.inside;
        behind_start = f.behind_start;
        clear = f.clear;
        same = f.same;
        listing = f.listing;
        cuts = f.cuts;
        listed = λ at a next h. ap (λ (l : List Part). before ++ l) (f.listed at a next h);
      }

  -- the second reader lists none
  pub alike_plain : {A B : Type 0} (p : Reader A) (k : A → Reader B) (F : Fields) (before : List Part) (mid : A → List Part) (parts : B → List Part)
      → ReadsAlike s t p F before mid → ((a : A) → ReadsAlike s t (k a) no_fields (mid a) parts) → ReadsAlike s t (p >>= k) F before parts
  alike_plain p k F before mid parts f g =
      alike_as (p >>= k) (λ call at. F call at ++ behind (p call at) (λ a next. [])) F before parts (λ call at. nothing (F call at) (p call at))
      (alike_then p k F (λ a. no_fields) before mid parts f g)
    where
      nothing : {C : Type 0} (l : List Part) (r : Read C) → l ++ behind r (λ a next. []) ≡ l
      nothing l (got a next) = append-nil l
      nothing l (bad q) = append-nil l

  -- one of two readers
  pub alike_cond : {A : Type 0} (b : Bool) (p q : Reader A) (F G : Fields) (before : List Part) (parts : A → List Part)
      → ReadsAlike s t p F before parts → ReadsAlike s t q G before parts → ReadsAlike s t (cond b p q) (cond b F G) before parts
  alike_cond true p q F G before parts f g = f
  alike_cond false p q F G before parts f g = g

  -- ---- fields without padding
  -- whatever has been read before stays all that was read
  abbrev pub Plain : {A : Type 0} → Reader A → Type 0
  Plain {A} p = (before : List Part) → ReadsAlike s t p no_fields before (λ (a : A). before)

  plain_reader : {A : Type 0} (p : Reader A) → ((at : ℕ) (a : A) (next : ℕ) → p s at ≡ got a next → at ≤ next)
      → ((at q : ℕ) → p s at ≡ bad q → at ≡ q) → ((at : ℕ) → SameWhereRead s t at (p s at) [] → p t at ≡ p s at) → Plain p
  plain_reader p onward refused same before =
      record {
        ahead = λ at i h. no_pad i h;
        onward = onward;
        inside = λ at a next h i w. no_pad i w;
        behind_start = λ at q h. omega (arith, refused at q h);
        clear = λ at q h i l m. none_padded i;
        same = same;
        listing = λ at same_bytes. refl;
        cuts = λ at same_bytes. tt;
        listed = λ at a next h. append-nil before;
      }

  plain_check : (b : Bool) → Plain (check b)
  plain_check b =
      plain_reader (check b) (λ at a next h. only_if_got b at (got tt at) a next h (λ _ e. omega (arith, same_end tt a at next e)))
      (λ at q h. only_if_bad b at tt at q h) (λ at same_bytes. refl)

  pub plain_end : Plain end
  unfolding end
  plain_end =
      plain_reader end (λ at a next h.
      only_if_got (eqb at (length s)) at (got tt at) a next h (λ _ e. omega (arith, same_end tt a at next e)))
      (λ at q h. only_if_bad (eqb at (length s)) at tt at q h) (λ at same_bytes. rw long)

  plain_number : (w : ℕ) → Plain (number w)
  unfolding number be_at
  plain_number w =
      plain_reader (number w) (λ at a next h.
      only_if_got (leb (at + w) (length s)) at (got (be_at s at w) (at + w)) a next h (λ _ e. omega (arith, same_end _ a (at + w) next e)))
      (λ at q h. only_if_bad (leb (at + w) (length s)) at (be_at s at w) (at + w) q h) (λ at same_bytes. rw long (same_number at (leb (at + w) (length s)) same_bytes))
    where
      same_number : (at : ℕ) (b : Bool) → SameWhereRead s t at (only_if b at (got (be_at s at w) (at + w))) []
          → only_if b at (got (be_at t at w) (at + w)) ≡ only_if b at (got (be_at s at w) (at + w))
      same_number at true same_bytes =
          ap (λ (l : List ℕ). got (be_of l) (at + w)) (same_part s t long at w (λ i l h. same_bytes i l h (none_padded i)))
      same_number at false same_bytes = refl

  -- an item is refused at its start
  plain_item : {A : Type 0} (p : Reader A) → Plain p → Plain (item p)
  plain_item {A} p f before =
      plain_reader (item p) (λ at a next h. (f before).onward at a next (placed_got at (p s at) a next h)) (λ at q h. placed_bad at (p s at) q h)
      (λ at same_bytes. ap (placed at) ((f before).same at (λ i l b out. same_bytes i l (placed_before at (p s at) i b) out))) before
    where
      placed_before : (at : ℕ) (r : Read A) (i : ℕ) → Before r i → Before (placed at r) i
      placed_before at (got a next) i b = b
      placed_before at (bad q) i b = tt

  -- what is built of these has no padding
  abbrev pub PlainOf : (A : Type 0) → Reader A → Type 0
  PlainOf A p = Plain p

  pub plain : Built PlainOf
  plain =
      record {
        of_done = λ a before. alike_done a before (λ _. before) refl;
        of_then = λ {A} {B} {p} {k} f g before. alike_plain p k no_fields before (λ _. before) (λ _. before) (f before) (λ a. g a before);
        of_item = λ {A} {p} f. plain_item p f;
        of_number = plain_number;
        of_check = plain_check;
      }
