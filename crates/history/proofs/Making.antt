-- CREATE and MKDIR keep the invariant, with the line that the book gets. Assumes nothing.
use Rattle.std.specs.Prelude.{Option, Some, None}
use mathlib.Core.Path.{◌≡◌, sym, ap, ◌∙◌, subst}
use mathlib.Core.Bool.{true, false}
use mathlib.Core.List.{List, ◌∷◌}
use Prim.Native.Nat.{ℕ, ◌-◌, ◌^◌, ◌≤◌, ◌<◌}
use native.Mathlib.Omega.{arith}
use Rattle.kinds.specs.Numbers.{most_file_bytes}
use Rattle.kinds.specs.declared.object.Context.{Context}
use Rattle.kinds.specs.declared.object.Object.{Object}
use Rattle.spec.specs.Checked.{absent}
use Rattle.spec.specs.Edits.{with_generation, resize, create_object, mtime_and_ctime}
use Rattle.spec.specs.Handles.{handle_of}
use Rattle.spec.specs.Image.{Store, stamp, objects, names, blocks, object_at}
use Rattle.spec.specs.Procedures.Attributes.{is_given, size_set, resize_to}
use Rattle.spec.specs.Procedures.Names.{new_edit, existing_edit}
use Rattle.spec.specs.Room.{size_of, need, free_block_count}
use Rattle.laws.proofs.CreateObject.{create_object_lem, create_object_uses}
use Rattle.laws.proofs.GoodRecords.{GoodClock, free_size}
use Rattle.laws.proofs.NewObject.{FreshObject}
use Rattle.laws.proofs.Passed.{Reached, NewRoom}
use Rattle.laws.proofs.Range.{Below}
use Rattle.laws.proofs.SameReads.{free_block_count_reads}
use Rattle.laws.proofs.SetAttributes.{mtime_and_ctime_fits, mtime_and_ctime_allowed}
use Rattle.laws.proofs.Valid.{GoodName}
use Rattle.history.specs.Book.{under, Ledger, handle_bytes, some_at, add}
use Rattle.history.specs.Statement.{object_in}
use Rattle.history.proofs.Handles.{handle_object}
use Rattle.history.proofs.View.{At, entries_at}
use Rattle.history.proofs.Agree.{handle_in, none_at, some_at_lem}
use Rattle.history.proofs.Seen.{view, kind_at, gen_at, live_in}
use Rattle.history.proofs.Inv.{Inv, Keeps, keeps_refl, keeps_trans, tree, touch_inv, resize_inv, created_of, create_keeps}
use Rattle.history.proofs.Inv as Inv
use Rattle.history.proofs.Checks.{handle_reached}
use Rattle.history.proofs.Noted.{add_new, add_old}
use Rattle.history.proofs.Sizes.{resize_to_lem}

-- the handle of an object in range
pub handle_seen : (σ p q r : ℕ) (s : Store) (L : Ledger) → Inv σ p q r s L → (o : ℕ) → o < objects s → handle_of s o ≡ handle_in σ (view s) o
unfolding handle_of
handle_seen σ p q r s L I o l = λ i. handle_bytes (I.mark i) o (sym (gen_at s o l) i)

-- a handle that reaches an object is the object's
pub reached_own : (σ p q r : ℕ) (s : Store) (L : Ledger) → Inv σ p q r s L → (h : List ℕ) → Below 256 h → (o : ℕ) → Reached s h o → h ≡ handle_in σ (view s) o
reached_own σ p q r s L I h b o w = handle_reached s h o w b ∙ handle_seen σ p q r s L I o w.below

-- the name `text` in directory d, whose handle is h: it has no line where no record is there, and one where one is
module _ (σ p q r : ℕ) (s : Store) (L : Ledger) (I : Inv σ p q r s L) (h text : List ℕ) (d : ℕ) (k : (view s).kind d ≡ 2) (own : h ≡ handle_in σ (view s) d) where
  pub line_none : entries_at (names s) (view s) d text ≡ 0 → some_at h text L.book ≡ false
  line_none z =
      ap (λ (x : List ℕ). some_at x text L.book) own
      ∙ none_at p q σ (view s) (tree σ p q r s L I) L.book I.agrees d text k (ap (λ (x : ℕ). entries_at x (view s) d text) (sym I.nams) ∙ z)

  pub line_some : (n : ℕ) → At (view s) n d text → some_at h text L.book ≡ true
  line_some n e =
      ap (λ (x : List ℕ). some_at x text L.book) own ∙ some_at_lem p q σ (view s) (tree σ p q r s L I) L.book I.agrees d text k n e

-- the object of such a handle
pub object_seen : (σ p q r : ℕ) (s : Store) (L : Ledger) → Inv σ p q r s L → (o : ℕ) → o < objects s → object_in (handle_of s o) ≡ o
unfolding handle_of
object_seen σ p q r s L I o l = handle_object (stamp s) o (object_at s o).generation (omega (arith, (tree σ p q r s L I).flat.few, I.objs))

-- the ledger with the line of a new object
abbrev pub with_line : ℕ → Store → Ledger → ℕ → ℕ → ℕ → List ℕ → Ledger
with_line σ s L o kind d text =
    record {
      book = record { handle = handle_in σ (view s) o; kind = kind; standing = under (handle_in σ (view s) d) text } ∷ L.book;
      given =
          handle_in σ (view s) o ∷ L.given;
    }

-- what is known of the store u with a new object o, named in directory d
pub record NewMade (σ p q r : ℕ) (s u : Store) (L : Ledger) (kind o d : ℕ) (text : List ℕ) : Type 0 where
  pub keeps : Keeps σ p q r s u (with_line σ s L o kind d text)
  -- the handle in the reply
  pub handle : handle_of u o ≡ handle_in σ (view s) o

module _ (σ p q r : ℕ) (s : Store) (L : Ledger) (I : Inv σ p q r s L) (c : Context) (clock : GoodClock c.clock) where
  -- ---- a new object
  module _ (kind o n d : ℕ) (text : List ℕ) (v : Object) (size : Option ℕ) (fresh : FreshObject v) (is : v.kind ≡ kind)
      (room : NewRoom s (size_set size 0) o n) (small : size_set size 0 ≤ most_file_bytes) (good : GoodName text) (below : Below 256 text)
      (parent : (view s).kind d ≡ 2) (absent : entries_at (names s) (view s) d text ≡ 0) (file : is_given size ≡ true → kind ≡ 1) where
    t : Store
    t = create_object s o n v d text

    first : Keeps σ p q r s t (with_line σ s L o v.kind d text)
    unfolding t
    first =
        create_keeps σ p q r s L I o n v d text room.object_below room.name_below room.object_free room.generation_low room.name_free
        fresh.fits (fresh.live (blocks s)) fresh.empty good below parent absent

    K : Ledger
    K = with_line σ s L o v.kind d text

    made_kind : (view t).kind o ≡ kind
    unfolding t
    made_kind =
        (created_of σ p q r s L I o n v d text room.object_below room.name_below room.object_free room.generation_low room.name_free
        fresh.fits (fresh.live (blocks s)) fresh.empty good below parent absent).obj.kind
        ∙ is

    dl : d < objects s
    dl = live_in s d (omega arith)

    d_small : d < 2 ^ 32
    d_small = omega (arith, dl, I.valid.shaped.few_objects)

    made_size : size_of t o ≡ 0
    unfolding t size_of with_generation
    made_size =
        ap (λ (x : Object). x.size) (create_object_lem s o n v d text (Inv.good σ p q r s L I).sound room.object_below room.name_below fresh.fits
        d_small good.short below).object ∙ fresh.empty

    was_empty : (object_at s o).size ≡ 0
    was_empty = free_size s (Inv.good σ p q r s L I) o room.object_below room.object_free

    same_free : free_block_count t ≡ free_block_count s
    unfolding t
    same_free =
        free_block_count_reads s t (create_object_lem s o n v d text (Inv.good σ p q r s L I).sound room.object_below room.name_below fresh.fits d_small
        good.short below).shape.blocks
        (λ b _. create_object_uses s o n v d text (Inv.good σ p q r s L I).sound room.object_below room.name_below fresh.fits d_small
        good.short below was_empty fresh.empty b)

    second : Keeps σ p q r t (resize_to t o size) K
    unfolding K
    second =
        resize_to_lem σ p q r t (with_line σ s L o v.kind d text) first.owes.inv o size (λ g. made_kind ∙ file g) small
        (omega (arith, same_free, room.room, ap (λ (x : ℕ). need (size_set size x) - need x) made_size))

    third : Keeps σ p q r (resize_to t o size) (new_edit s c v size o n d text) K
    unfolding new_edit t K
    third =
        touch_inv σ p q r (resize_to t o size) K second.owes.inv c.clock d mtime_and_ctime
        (let x = first.kinds d (omega arith) in omega (arith, second.kinds d (omega arith))) clock mtime_and_ctime_fits mtime_and_ctime_allowed

    both : Keeps σ p q r s (new_edit s c v size o n d text) K
    unfolding K
    both = keeps_trans σ p q r s t _ K K first (keeps_trans σ p q r t (resize_to t o size) _ K K second third)

    new_keeps : Keeps σ p q r s (new_edit s c v size o n d text) (with_line σ s L o kind d text)
    unfolding K
    new_keeps = subst (λ (x : ℕ). Keeps σ p q r s (new_edit s c v size o n d text) (with_line σ s L o x d text)) is both

    new_handle : handle_of (new_edit s c v size o n d text) o ≡ handle_in σ (view s) o
    new_handle =
        let u = new_edit s c v size o n d text in
        let J = new_keeps.owes.inv in
        handle_seen σ p q r u (with_line σ s L o kind d text) J o (omega (arith, J.objs, I.objs, room.object_below))
        ∙ ap (handle_bytes σ o) (new_keeps.gens o)

    pub new_made : NewMade σ p q r s (new_edit s c v size o n d text) L kind o d text
    new_made = record { keeps = new_keeps; handle = new_handle }

  -- ---- the line of a new object, where the store has no such name, and none where it has one
  module _ (h text : List ℕ) (d : ℕ) (w : Reached s h d) (dk : (object_at s d).kind ≡ 2) (hb : Below 256 h) where
    pub directory_kind : (view s).kind d ≡ 2
    directory_kind = kind_at s d w.below ∙ dk

    pub directory_handle : h ≡ handle_in σ (view s) d
    directory_handle = reached_own σ p q r s L I h hb d w

    pub line_added : (o kind : ℕ) → entries_at (names s) (view s) d text ≡ 0 → add (handle_in σ (view s) o) kind h text L ≡ with_line σ s L o kind d text
    line_added o kind z =
        add_new (handle_in σ (view s) o) kind h text L
        (line_none σ p q r s L I h text d directory_kind directory_handle z)
        ∙ ap (λ (x : List ℕ). record {
          book = record { handle = handle_in σ (view s) o; kind = kind; standing = under x text } ∷ L.book;
          given =
              handle_in σ (view s) o ∷ L.given;
        }) directory_handle

    pub line_there : (g : List ℕ) (kind n : ℕ) → At (view s) n d text → add g kind h text L ≡ L
    line_there g kind n e =
        add_old g kind h text L
        (line_some σ p q r s L I h text d directory_kind directory_handle n e)

  -- ---- CREATE of an existing file
  pub existing_keeps : (o : ℕ) (size : Option ℕ) → (view s).kind o ≡ 1 → size_set size 0 ≤ most_file_bytes
      → need (size_set size (size_of s o)) - need (size_of s o) ≤ free_block_count s → Keeps σ p q r s (existing_edit s c o size) L
  existing_keeps o None k m e = keeps_refl σ p q r s L I
  existing_keeps o (Some n) k m e =
      let first = resize_inv σ p q r s L I o n k m e in
      keeps_trans σ p q r s (resize s o n) _ L L first
      (touch_inv σ p q r (resize s o n) L first.owes.inv c.clock o mtime_and_ctime (omega (arith, first.kinds o (omega arith))) clock
      mtime_and_ctime_fits mtime_and_ctime_allowed)
