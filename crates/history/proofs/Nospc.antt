-- NOSPC is answered exactly where the room that the book counts is missing, and OK where it is there; MLINK to a LINK of a file with 16 names.
-- Assumes nothing.
use Rattle.std.specs.Prelude as Code
use Rattle.kinds.specs.declared.object.Time.{Time}
use mathlib.Core.Path.{◌≡◌, refl, sym, ap, ◌∙◌, subst}
use mathlib.Core.Logic.{◌↔◌, ◌⊎◌, inl, inr, by_cases, ⊎_elim}
use mathlib.Core.Bool.{Bool, true, false, ◌&&◌, ◌||◌, not}
use mathlib.Core.Option.{Option, some, none}
use mathlib.Core.List.{List}
use Prim.Native.Nat.{ℕ, ◌+◌, ◌-◌, ◌≤◌, ◌<◌, min}
use native.Mathlib.Decide.{ℕ_discrete, dec_lt}
use native.Mathlib.Omega.{arith}
use lib.Dec.{eqb, leb, ltb, lit<}
use lib.ListN.{length, take}
use borrow.Author.Tests.{eq-eqb, ne_eqb, lt-ltb, le-ltb, ltb-true, le-leb, lt-leb, leb-true}
use Rattle.kinds.specs.Numbers.{NOSPC, MLINK, most_transfer_bytes, most_file_bytes, most_links}
use Rattle.kinds.specs.declared.object.Context.{Context}
use Rattle.kinds.specs.declared.call.Part.{Part}
use Rattle.kinds.specs.declared.call.NameIn.{NameIn}
use Rattle.kinds.specs.declared.call.Settable.{Settable}
use Rattle.kinds.specs.declared.call.How.{How}
use Rattle.kinds.specs.declared.call.How.TheVariants as How
use Rattle.kinds.specs.declared.call.Arguments.{Arguments}
use Rattle.kinds.specs.declared.call.Arguments.TheVariants as Call
use Rattle.spec.specs.Checked.{Checked, refused, passed, bind, refuse_if, present}
use Rattle.spec.specs.Count.{bit, count, lowest}
use Rattle.spec.specs.Edits.{only_ctime}
use Rattle.spec.specs.Handles.{reach, reach_directory}
use Rattle.spec.specs.Image.{Store, objects, names, object_at, name_at}
use Rattle.spec.specs.Procedures.{cut, act}
use Rattle.spec.specs.Procedures.Attributes.{is_given, size_set, bad_attributes, lacks_room, differs, check_setattr, setattr_edit, edited, setattr}
use Rattle.spec.specs.Procedures.Data.{reach_regular, grown, check_write, write_done, write}
use Rattle.spec.specs.Procedures.Link.{check_added, check_link, link_edit, fail_linking, linked_to, link}
use Rattle.spec.specs.Procedures.Names.{Target, new, existing, is_new, room_for_new, settable_in, is_made_by, check_new, check_existing, check_how, check_create}
use Rattle.spec.specs.Procedures.Names.{create_edit, create, check_mkdir, mkdir, created_in, new_object, new_edit}
use Rattle.spec.specs.Results.{Result, Done, fail_changing, settle}
use Rattle.spec.specs.Room.{is_regular, is_directory, is_available, is_used_name, size_of, need, free_block_count, available_count, available_object}
use Rattle.spec.specs.Room.{free_name_count, available_name, find_name, namings}
use Rattle.laws.proofs.Count.{by_bool, sum_at, lowest_passes, lowest_none, true_false}
use Rattle.laws.proofs.Error.{status_of}
use Rattle.laws.proofs.Resent.{same_size}
use Rattle.laws.proofs.Searches.{count_nothing}
use Rattle.laws.proofs.Valid.{passes_valid}
use Rattle.history.specs.Book.{Ledger, is_status, is_ok}
use Rattle.history.specs.Run.{Request, outcome_of, reply_to}
use Rattle.history.specs.Statement.{Asks, Room, Missing, AnswersRoom, blocks_left, names_left, objects_left}
use Rattle.history.proofs.Asking.{AsksStore}
use Rattle.history.proofs.Inv.{Inv}
use Rattle.history.proofs.Replies.{answered_is, answered_ok}
use Rattle.history.proofs.Counts.{free_blocks_lem, free_names_lem, available_objects}
use Rattle.history.proofs.Noted.{Answer, Says, changing_says, changed_says, wrote_says, created_says, linked_says, linking_says}
use Rattle.history.proofs.Asked.{acted}
use Rattle.history.proofs.Statuses.{MayAdd}
use Rattle.history.proofs.Next.{answer_to_lem}

-- ---- an answer by a test
module _ (call reply : List ℕ) (a : Arguments) (r : Result) (A : Answer call reply a r) where
  pub status_of_lem : (n k : ℕ) → Says r n → n < 4294967296 → is_status k reply ≡ eqb n k
  status_of_lem n k f l =
      ap (is_status k) A.is ∙ answered_is A.xid A.procedure r f.some (omega (arith, f.status)) k ∙ ap (λ (x : ℕ). eqb x k) f.status

  pub ok_of : Says r 0 → is_ok reply ≡ true
  ok_of f = ap is_ok A.is ∙ answered_ok A.xid A.procedure r f.some (omega (arith, f.status)) ∙ eq-eqb (status_of r) 0 f.status

  pub by_room : (missing : Type 0) → Dec missing → (missing → Says r NOSPC) → (¬ missing → Says r 0) → AnswersRoom reply missing
  by_room missing d full there =
      record {
        nospc = (
          (λ e. by_cases d (λ m. m) (λ n. absurd (true_false (sym e ∙ status_of_lem 0 NOSPC (there n) (lit< tt))))),
          (λ m. status_of_lem NOSPC NOSPC (full m) (lit< tt)),
        );
        ok = λ n. ok_of (there n);
      }

-- ---- a search that finds nothing, and a count that is 0
lowest_count : (n : ℕ) (f : ℕ → Bool) → count n f ≡ 0 → lowest n f ≡ none
lowest_count n f z = go (lowest n f) refl
  where
    go : (x : Option ℕ) → lowest n f ≡ x → x ≡ none
    go none e = refl
    go (some k) e =
        let w = lowest_passes f n k e in
        absurd (omega (arith, sum_at n k (λ i. bit (f i)) w.below, ap bit w.passes))

lowest_found : (n : ℕ) (f : ℕ → Bool) → 0 < count n f → (k : ℕ) × (lowest n f ≡ some k)
lowest_found n f l = go (lowest n f) refl
  where
    go : (x : Option ℕ) → lowest n f ≡ x → (k : ℕ) × (lowest n f ≡ some k)
    go none e = absurd (omega (arith, count_nothing n f (λ i m. lowest_none f n i e m)))
    go (some k) e = (k, e)

some_of : (a b : ℕ) → a ≡ b → (a ≡ 0 → ⊥) → 0 < b
some_of a b e n = by_cases (ℕ_discrete a 0) (λ z. absurd (n z)) (λ z. omega arith)

-- the status of a LINK that passes its checks before MLINK
link_status : Bool → Option ℕ → ℕ
link_status true n = MLINK
link_status false none = NOSPC
link_status false (some n) = 0

status_small : (t : Bool) (n : Option ℕ) → link_status t n < 4294967296
unfolding link_status
status_small true n = lit< tt
status_small false none = lit< tt
status_small false (some n) = lit< tt

is_many : (t : Bool) (n : Option ℕ) → eqb (link_status t n) MLINK ≡ t
unfolding link_status
is_many true n = refl
is_many false none = refl
is_many false (some n) = refl

-- the two kinds of room that can be missing
abbrev BlocksMissing : ℕ → ℕ → Store → Ledger → ℕ → ℕ → Type 0
BlocksMissing p r s L old size = blocks_left p r s L < need size - need old

abbrev RoomMissing : ℕ → ℕ → ℕ → ℕ → Store → Ledger → ℕ → Type 0
RoomMissing σ p q r s L size = (objects_left σ p L ≡ 0) ⊎ ((names_left q L ≡ 0) ⊎ (blocks_left p r s L < need size))

-- the checks of room for a new object, by what is found
abbrev room_by : Option ℕ → Option ℕ → Bool → Checked (ℕ × ℕ)
room_by x y t = bind (present NOSPC x) (λ o. bind (present NOSPC y) (λ n. bind (refuse_if t NOSPC) (λ _. passed (o, n))))

-- a CREATE that passes its checks is answered OK
pub created_so : (s : Store) (c : Context) (d : ℕ) (text : List ℕ) (manner : How) (t : Target) → Says (create_edit s c d text manner t).result 0
created_so s c d text manner (new o n) = created_says _ _ _
created_so s c d text manner (existing o) = created_says _ _ _

module _ (σ p q r : ℕ) (s : Store) (L : Ledger) (I : Inv σ p q r s L) where
  -- the room that is left, by the book and in the store
  pub blocks_left_lem : blocks_left p r s L ≡ free_block_count s
  blocks_left_lem = omega (arith, free_blocks_lem σ p q r s L I)

  pub names_left_lem : names_left q L ≡ free_name_count s
  names_left_lem = omega (arith, free_names_lem σ p q r s L I)

  pub objects_left_lem : objects_left σ p L ≡ available_count s
  objects_left_lem = omega (arith, available_objects σ p q r s L I)

  missing_yes : (old size : ℕ) → BlocksMissing p r s L old size → lacks_room s old size ≡ true
  unfolding lacks_room
  missing_yes old size m = lt-ltb (free_block_count s) (need size - need old) (omega (arith, blocks_left_lem))

  missing_no : (old size : ℕ) → ¬ BlocksMissing p r s L old size → lacks_room s old size ≡ false
  unfolding lacks_room
  missing_no old size m =
      by_bool (ltb (free_block_count s) (need size - need old))
      (λ t. absurd (m (omega (arith, blocks_left_lem, ltb-true (free_block_count s) (need size - need old) t)))) (λ t. t)

  missing? : (old size : ℕ) → Dec (BlocksMissing p r s L old size)
  missing? old size = dec_lt (blocks_left p r s L) (need size - need old)

  -- ---- SETATTR
  setattr_room : (x : Request) (h : Part) (a : Settable) (g : Code.Option Time) (o : ℕ) → Asks x (Call.Setattr h a g)
      → reach s (cut x.call h) ≡ passed o → differs g (object_at s o).ctime ≡ false → bad_attributes a ≡ false → is_given a.size && is_directory s o ≡ false
      → AnswersRoom (reply_to s x) (BlocksMissing p r s L (size_of s o) (size_set a.size (size_of s o)))
  unfolding act setattr check_setattr status_of
  setattr_room x h a g o k e₁ e₂ e₃ e₄ =
      let hb = cut x.call h in
      let c = x.context in
      let old = size_of s o in
      let size = size_set a.size (size_of s o) in
      let checks : check_setattr s hb a g ≡ bind (refuse_if (lacks_room s old size) NOSPC) (λ _. passed o) = rw (e₁, e₂, e₃, e₄) in
      let result : Checked ℕ → Result = λ y. (settle s (fail_changing s hb) y (λ o. edited s o (setattr_edit s c o a))).result in
      let A = answer_to_lem σ p q r s L I x (Call.Setattr h a g) k in
      by_room x.call (reply_to s x) (Call.Setattr h a g) _ A (BlocksMissing p r s L old size) (missing? old size)
      (λ m. subst (λ (y : Checked ℕ). Says (result y) NOSPC)
      (sym (checks ∙ ap (λ (t : Bool). bind (refuse_if t NOSPC) (λ _. passed o)) (missing_yes old size m))) (changing_says s hb NOSPC))
      (λ m. subst (λ (y : Checked ℕ). Says (result y) 0) (sym (checks ∙ ap (λ (t : Bool). bind (refuse_if t NOSPC) (λ _. passed o)) (missing_no old size m)))
      (changed_says 0 _))

  -- ---- WRITE
  write_room : (x : Request) (h : Part) (offset n : ℕ) (bytes : Part) (o : ℕ) → Asks x (Call.Write h offset n bytes)
      → reach_regular s (cut x.call h) ≡ passed o → n ≡ length (cut x.call bytes) → 0 < n → offset + min n most_transfer_bytes ≤ most_file_bytes
      → AnswersRoom (reply_to s x) (BlocksMissing p r s L (size_of s o) (grown s o offset (min n most_transfer_bytes)))
  unfolding act write write_done check_write status_of
  write_room x h offset n bytes o k e₁ e₂ l m =
      let hb = cut x.call h in
      let c = x.context in
      let old = size_of s o in
      let size = grown s o offset (min n most_transfer_bytes) in
      let sent = cut x.call bytes in
      let d₁ : eqb n (length sent) ≡ true = eq-eqb n (length sent) e₂ in
      let d₂ : eqb n 0 ≡ false = ne_eqb n 0 (λ z. omega arith) in
      let d₃ : ltb most_file_bytes (offset + min n most_transfer_bytes) ≡ false = le-ltb most_file_bytes (offset + min n most_transfer_bytes) m in
      let checks : check_write s hb offset n sent ≡ bind (refuse_if (lacks_room s old size) NOSPC) (λ _. passed o) = rw (e₁, d₁, d₂, d₃) in
      let result : Checked ℕ → Result = λ y. (settle s (fail_changing s hb) y (λ o. write_done s c o offset (take (min n most_transfer_bytes) sent))).result in
      let A = answer_to_lem σ p q r s L I x (Call.Write h offset n bytes) k in
      by_room x.call (reply_to s x) (Call.Write h offset n bytes) _ A (BlocksMissing p r s L old size) (missing? old size)
      (λ b. subst (λ (y : Checked ℕ). Says (result y) NOSPC)
      (sym (checks ∙ ap (λ (t : Bool). bind (refuse_if t NOSPC) (λ _. passed o)) (missing_yes old size b))) (changing_says s hb NOSPC))
      (λ b. subst (λ (y : Checked ℕ). Says (result y) 0) (sym (checks ∙ ap (λ (t : Bool). bind (refuse_if t NOSPC) (λ _. passed o)) (missing_no old size b)))
      (wrote_says _ _ _))

  pub write_nothing_lem : (x : Request) (h : Part) (offset : ℕ) (bytes : Part) (o : ℕ) → Asks x (Call.Write h offset 0 bytes)
      → reach_regular s (cut x.call h) ≡ passed o → 0 ≡ length (cut x.call bytes) → is_ok (reply_to s x) ≡ true
  unfolding act write write_done check_write status_of
  write_nothing_lem x h offset bytes o k e₁ e₂ =
      let hb = cut x.call h in
      let c = x.context in
      let sent = cut x.call bytes in
      let d₁ : eqb 0 (length sent) ≡ true = eq-eqb 0 (length sent) e₂ in
      let checks : check_write s hb offset 0 sent ≡ passed o = rw (e₁, d₁) in
      let result : Checked ℕ → Result = λ y. (settle s (fail_changing s hb) y (λ o. write_done s c o offset (take (min 0 most_transfer_bytes) sent))).result in
      let A = answer_to_lem σ p q r s L I x (Call.Write h offset 0 bytes) k in
      ok_of x.call (reply_to s x) (Call.Write h offset 0 bytes) _ A (subst (λ (y : Checked ℕ). Says (result y) 0) (sym checks) (wrote_says _ _ _))

  -- ---- room for a new object
  room? : (size : ℕ) → Dec (RoomMissing σ p q r s L size)
  room? size = by_cases (ℕ_discrete (objects_left σ p L) 0)
      (λ a. yes (inl a))
      (λ a. by_cases (ℕ_discrete (names_left q L) 0)
      (λ b. yes (inr (inl b)))
      (λ b. by_cases (dec_lt (blocks_left p r s L) (need size))
      (λ c. yes (inr (inr c)))
      (λ c. no (λ x. ⊎_elim a (λ y. ⊎_elim b c y) x))))

  room_full : (size : ℕ) → RoomMissing σ p q r s L size → room_for_new s size ≡ refused NOSPC
  unfolding room_for_new available_object available_name available_count free_name_count
  room_full size (◌⊎◌.inl a) = rw (lowest_count (objects s) (is_available s) (sym objects_left_lem ∙ a))
  room_full size (◌⊎◌.inr (◌⊎◌.inl b)) = objects_first (available_object s)
    where
      objects_first : (x : Option ℕ) → room_by x (available_name s) (lacks_room s 0 size) ≡ refused NOSPC
      objects_first none = refl
      objects_first (some o) = rw (lowest_count (names s) (λ n. not (is_used_name s n)) (sym names_left_lem ∙ b))
  room_full size (◌⊎◌.inr (◌⊎◌.inr c)) = both (available_object s) (available_name s)
    where
      both : (x y : Option ℕ) → room_by x y (lacks_room s 0 size) ≡ refused NOSPC
      both none y = refl
      both (some o) none = refl
      both (some o) (some n) = rw (missing_yes 0 size (omega arith))

  room_there : (size : ℕ) → ¬ RoomMissing σ p q r s L size → (x : ℕ × ℕ) × (room_for_new s size ≡ passed x)
  unfolding room_for_new available_object available_name available_count free_name_count
  room_there size m =
      let (o, e) = lowest_found (objects s) (is_available s) (some_of (objects_left σ p L) (count (objects s) (is_available s)) objects_left_lem (λ z. m (inl z))) in
      let (n, f) = lowest_found (names s) (λ n. not (is_used_name s n))
      (some_of (names_left q L) (count (names s) (λ n. not (is_used_name s n))) names_left_lem (λ z. m (inr (inl z)))) in
      ((o, n), rw (e, f, missing_no 0 size (λ z. m (inr (inr (omega arith))))))

  -- ---- CREATE of a new file
  create_room : (x : Request) (place : NameIn) (manner : How) (d : ℕ) → Asks x (Call.Create place manner)
      → reach_directory s (cut x.call place.directory) ≡ passed d
      → check_new (cut x.call place.name) (bad_attributes (settable_in manner)) ≡ passed tt → find_name s d (cut x.call place.name) ≡ none
      → AnswersRoom (reply_to s x) (RoomMissing σ p q r s L (size_set (settable_in manner).size 0))
  unfolding act create check_create check_how status_of
  create_room x place manner d k e₁ e₂ e₃ =
      let h = cut x.call place.directory in
      let text = cut x.call place.name in
      let c = x.context in
      let size = size_set (settable_in manner).size 0 in
      let checks : check_create s h text manner ≡ bind (is_new (room_for_new s size)) (λ t. passed (d, t)) = rw (e₁, e₂, e₃) in
      let result : Checked (ℕ × Target) → Result = λ y. (settle s (fail_changing s h) y (λ p. create_edit s c p.0 text manner p.1)).result in
      let A = answer_to_lem σ p q r s L I x (Call.Create place manner) k in
      by_room x.call (reply_to s x) (Call.Create place manner) _ A (RoomMissing σ p q r s L size) (room? size)
      (λ m. subst (λ (y : Checked (ℕ × Target)). Says (result y) NOSPC)
      (sym (checks ∙ ap (λ (t : Checked (ℕ × ℕ)). bind (is_new t) (λ t. passed (d, t))) (room_full size m))) (changing_says s h NOSPC))
      (λ m. let (y, e) = room_there size m in
      subst (λ (y : Checked (ℕ × Target)). Says (result y) 0) (sym (checks ∙ ap (λ (t : Checked (ℕ × ℕ)). bind (is_new t) (λ t. passed (d, t))) e))
      (created_so s c d text manner (new y.0 y.1)))

  -- ---- CREATE of an existing file
  recreate_room : (x : Request) (place : NameIn) (a : Settable) (d n : ℕ) → Asks x (Call.Create place (How.Unchecked a))
      → reach_directory s (cut x.call place.directory) ≡ passed d
      → check_new (cut x.call place.name) (bad_attributes a) ≡ passed tt → find_name s d (cut x.call place.name) ≡ some n
      → is_regular s (name_at s n).child ≡ true
      → AnswersRoom (reply_to s x) (BlocksMissing p r s L (size_of s (name_at s n).child) (size_set a.size (size_of s (name_at s n).child)))
  unfolding act create check_create check_how check_existing status_of
  recreate_room x place a d n k e₁ e₂ e₃ e₄ =
      let h = cut x.call place.directory in
      let text = cut x.call place.name in
      let c = x.context in
      let o = (name_at s n).child in
      let old = size_of s o in
      let size = size_set a.size (size_of s o) in
      let rest : Bool → Checked (ℕ × Target) = λ t. bind (bind (refuse_if t NOSPC) (λ _. passed (existing o))) (λ t. passed (d, t)) in
      let checks : check_create s h text (How.Unchecked a) ≡ rest (lacks_room s old size) = rw (e₁, e₂, e₃, e₄) in
      let result : Checked (ℕ × Target) → Result = λ y. (settle s (fail_changing s h) y (λ p. create_edit s c p.0 text (How.Unchecked a) p.1)).result in
      let A = answer_to_lem σ p q r s L I x (Call.Create place (How.Unchecked a)) k in
      by_room x.call (reply_to s x) (Call.Create place (How.Unchecked a)) _ A (BlocksMissing p r s L old size) (missing? old size)
      (λ m. subst (λ (y : Checked (ℕ × Target)). Says (result y) NOSPC) (sym (checks ∙ ap rest (missing_yes old size m))) (changing_says s h NOSPC))
      (λ m. subst (λ (y : Checked (ℕ × Target)). Says (result y) 0) (sym (checks ∙ ap rest (missing_no old size m)))
      (created_so s c d text (How.Unchecked a) (existing o)))

  -- of a file that was made EXCLUSIVE with this verifier
  pub made_before_lem : (x : Request) (place : NameIn) (verifier d n : ℕ) → Asks x (Call.Create place (How.Exclusive verifier))
      → reach_directory s (cut x.call place.directory) ≡ passed d
      → check_new (cut x.call place.name) (bad_attributes only_ctime) ≡ passed tt → find_name s d (cut x.call place.name) ≡ some n
      → is_made_by s verifier (name_at s n).child ≡ true → (is_ok (reply_to s x) ≡ true) × ((outcome_of s x).store ≡ s)
  unfolding act create check_create check_how check_existing status_of
  made_before_lem x place verifier d n k e₁ e₂ e₃ e₄ =
      let h = cut x.call place.directory in
      let text = cut x.call place.name in
      let o = (name_at s n).child in
      let manner = How.Exclusive verifier in
      let checks : check_create s h text manner ≡ passed (d, existing o) = rw (e₁, e₂, e₃, e₄, same_size s (size_of s o)) in
      let done : Checked (ℕ × Target) → Done = λ y. settle s (fail_changing s h) y (λ p. create_edit s x.context p.0 text manner p.1) in
      let A = answer_to_lem σ p q r s L I x (Call.Create place manner) k in (
        ok_of x.call (reply_to s x) (Call.Create place manner) _ A
            (subst (λ (y : Checked (ℕ × Target)). Says (done y).result 0) (sym checks) (created_so s x.context d text manner (existing o))),
        (acted s x (Call.Create place manner) k (passes_valid s I.valid)).store ∙ ap (λ (y : Checked (ℕ × Target)). (done y).store) checks,
      )

  -- ---- MKDIR
  mkdir_room : (x : Request) (place : NameIn) (a : Settable) (d : ℕ) → Asks x (Call.Mkdir place a)
      → reach_directory s (cut x.call place.directory) ≡ passed d
      → check_new (cut x.call place.name) (bad_attributes a || is_given a.size) ≡ passed tt → find_name s d (cut x.call place.name) ≡ none
      → AnswersRoom (reply_to s x) (RoomMissing σ p q r s L 0)
  unfolding act mkdir check_mkdir status_of
  mkdir_room x place a d k e₁ e₂ e₃ =
      let h = cut x.call place.directory in
      let text = cut x.call place.name in
      let c = x.context in
      let rest : Checked (ℕ × ℕ) → Checked (ℕ × ℕ × ℕ) = λ y. bind y (λ p. passed (d, p.0, p.1)) in
      let checks : check_mkdir s h text a ≡ rest (room_for_new s 0) = rw (e₁, e₂, e₃) in
      let result : Checked (ℕ × ℕ × ℕ) → Result = λ y. (settle s (fail_changing s h) y
      (λ p. created_in s (new_edit s c (new_object c.clock 2 a) a.size p.1 p.2 p.0 text) p.0 p.1)).result in
      let A = answer_to_lem σ p q r s L I x (Call.Mkdir place a) k in
      by_room x.call (reply_to s x) (Call.Mkdir place a) _ A (RoomMissing σ p q r s L 0) (room? 0)
      (λ m. subst (λ (y : Checked (ℕ × ℕ × ℕ)). Says (result y) NOSPC) (sym (checks ∙ ap rest (room_full 0 m))) (changing_says s h NOSPC))
      (λ m. let (y, e) = room_there 0 m in
      subst (λ (y : Checked (ℕ × ℕ × ℕ)). Says (result y) 0) (sym (checks ∙ ap rest e))
      (created_says _ _ _))

  -- ---- LINK
  module _ (x : Request) (source : Part) (place : NameIn) (o d : ℕ) (k : Asks x (Call.Link source place))
      (m : MayAdd s (cut x.call source) (cut x.call place.directory) (cut x.call place.name) o d) where
    file : List ℕ
    file = cut x.call source

    into : List ℕ
    into = cut x.call place.directory

    text : List ℕ
    text = cut x.call place.name

    -- the checks from MLINK on, by what is found
    rest : Bool → Option ℕ → Checked (ℕ × ℕ × ℕ)
    rest t n = bind (bind (refuse_if t MLINK) (λ _. present NOSPC n)) (λ n. passed (o, d, n))

    link_checks : check_link s file into text ≡ rest (leb most_links (namings s o)) (available_name s)
    unfolding check_link check_added file into text rest
    link_checks = rw (m.reached, m.file, m.directory, m.name, m.no_dots_lem, m.fresh)

    result : Checked (ℕ × ℕ × ℕ) → Result
    result y = (settle s (fail_linking s file into) y (λ p. linked_to s p.0 p.1 (link_edit s x.context p.0 p.1 p.2 text))).result

    link_answer : Answer x.call (reply_to s x) (Call.Link source place) (result (check_link s file into text))
    unfolding act link file into text result
    link_answer = answer_to_lem σ p q r s L I x (Call.Link source place) k

    -- what is said, by the test of MLINK and by the free name
    link_says : (t : Bool) (n : Option ℕ) → leb most_links (namings s o) ≡ t → available_name s ≡ n → Says (result (rest t n)) (link_status t n)
        → Says (result (check_link s file into text)) (link_status t n)
    link_says t n e f = subst (λ (y : Checked (ℕ × ℕ × ℕ)). Says (result y) (link_status t n)) (sym (link_checks ∙ (λ i. rest (e i) (f i))))

    says_by : (t : Bool) (n : Option ℕ) → Says (result (rest t n)) (link_status t n)
    unfolding result rest link_status
    says_by true n = linking_says s file into MLINK
    says_by false none = linking_says s file into NOSPC
    says_by false (some n) = linked_says 0 _ _

    link_room : namings s o < most_links → AnswersRoom (reply_to s x) (names_left q L ≡ 0)
    unfolding available_name free_name_count link_status
    link_room few =
        let f : leb most_links (namings s o) ≡ false = lt-leb most_links (namings s o) few in
        by_room x.call (reply_to s x) (Call.Link source place) _ link_answer (names_left q L ≡ 0) (ℕ_discrete (names_left q L) 0)
        (λ z. link_says false none f (lowest_count (names s) (λ n. not (is_used_name s n)) (sym names_left_lem ∙ z)) (says_by false none))
        (λ z. let (n, e) = lowest_found (names s) (λ n. not (is_used_name s n))
        (some_of (names_left q L) (count (names s) (λ n. not (is_used_name s n))) names_left_lem z) in
        link_says false (some n) f e (says_by false (some n)))

    -- "MLINK at 16 names"
    pub many_names_lem : (is_status MLINK (reply_to s x) ≡ true) ↔ (most_links ≤ namings s o)
    many_names_lem =
        let t = leb most_links (namings s o) in
        let n = available_name s in
        let b : is_status MLINK (reply_to s x) ≡ t =
        status_of_lem x.call (reply_to s x) (Call.Link source place) _ link_answer (link_status t n) MLINK (link_says t n refl refl (says_by t n)) (status_small t n)
        ∙ is_many t n in
        ((λ e. leb-true most_links (namings s o) (sym b ∙ e)), (λ l. b ∙ le-leb most_links (namings s o) l))

  -- ---- whatever room is asked for
  pub room : (x : Request) {m : Room} → AsksStore s x m → AnswersRoom (reply_to s x) (Missing σ p q r (record { store = s; ledger = L }) m)
  room x (AsksStore.by_setattr h a g o k e₁ e₂ e₃ e₄) = setattr_room x h a g o k e₁ e₂ e₃ e₄
  room x (AsksStore.by_write h offset n bytes o k e₁ e₂ l m) = write_room x h offset n bytes o k e₁ e₂ (omega arith) m
  room x (AsksStore.by_create place manner d k e₁ e₂ e₃) = create_room x place manner d k e₁ e₂ e₃
  room x (AsksStore.by_recreate place a d n k e₁ e₂ e₃ e₄) = recreate_room x place a d n k e₁ e₂ e₃ e₄
  room x (AsksStore.by_mkdir place a d k e₁ e₂ e₃) = mkdir_room x place a d k e₁ e₂ e₃
  room x (AsksStore.by_link source place o d k m few) = link_room x source place o d k m few
