-- Every request keeps the invariant, and so does any list of them from any format. Assumes nothing.
use mathlib.Core.Path.{◌≡◌, refl, sym, ap, ◌∙◌, subst}
use mathlib.Core.Logic.{◌≢◌, by_cases, ⊎_elim, ◌⊎◌}
use mathlib.Core.List.Memᴰ
use mathlib.Core.List.{List, [], ◌∷◌, Memᴰ}
use Prim.Native.Nat.{ℕ}
use native.Mathlib.Decide.{ℕ_discrete, dec_lt}
use native.Mathlib.Omega.{arith}
use lib.ListN.{length}
use Rattle.kinds.specs.declared.object.Context.{Context}
use Rattle.kinds.specs.declared.object.Object.{Object}
use Rattle.kinds.specs.declared.object.Time.{Time}
use Rattle.kinds.specs.declared.call.Arguments.{Arguments}
use Rattle.kinds.specs.declared.call.Arguments.TheVariants as Call
use Rattle.spec.specs.Count.{times}
use Rattle.spec.specs.Image.{Store, objects, object_at, Name}
use Rattle.spec.specs.Procedures.{cut, act}
use Rattle.spec.specs.Serve.{formatted}
use Rattle.laws.proofs.Error.{getattr_store, lookup_store, access_store, read_store, readdir_store, fsstat_store, fsinfo_store, pathconf_store, commit_store}
use Rattle.laws.proofs.Formatted.{FormatAsked, formatted_stamp, formatted_objects, formatted_names, formatted_blocks, formatted_below, formatted_root}
use Rattle.laws.proofs.Formatted.{formatted_free, formatted_name, formatted_valid}
use Rattle.laws.proofs.Range.{Below}
use Rattle.laws.proofs.RecordRange.{cut_below}
use Rattle.laws.proofs.GoodRecords.{GoodClock}
use Rattle.laws.proofs.Valid.{passes_valid}
use Rattle.history.specs.Book.{Ledger, noted, note, first_ledger, handle_bytes, as_root}
use Rattle.history.specs.Run.{Request, Lent, AllLent, outcome_of, reply_to, State, step, run}
use Rattle.history.specs.Statement.{Asks}
use Rattle.history.proofs.Sum.{ind_yes, ind_no}
use Rattle.history.proofs.View.{UsedIn}
use Rattle.history.proofs.Tree.{live?}
use Rattle.history.proofs.Agree.{used?}
use Rattle.history.proofs.Issue.{issued}
use Rattle.history.proofs.Seen.{view, kind_at, gen_at, text_at, used_in, within_no}
use Rattle.history.proofs.Inv.{Inv, Owes, owes_trans, keeps_refl}
use Rattle.history.proofs.Asked.{acted, Idle, served}
use Rattle.laws.proofs.ArgumentRange.{FitsArguments}
use Rattle.history.proofs.Ranges.{asked_fits}
use Rattle.history.proofs.Noted.{Answer, note_quiet}
use Rattle.history.proofs.Sizes.{setattr_keeps, write_keeps}
use Rattle.history.proofs.Create.{create_made, mkdir_made}
use Rattle.history.proofs.Linking.{link_owes}
use Rattle.history.proofs.Removing.{remove_owes, rmdir_owes}
use Rattle.history.proofs.Renaming.{rename_owes}

module _ (σ p q r : ℕ) (s : Store) (L : Ledger) (I : Inv σ p q r s L) where
  still : Owes σ p q r s s L
  still = (keeps_refl σ p q r s L I).owes

  -- a call that leaves the store and the book
  quiet : (t : Store) (M : Ledger) → t ≡ s → M ≡ L → Owes σ p q r s t M
  quiet t M e f = subst (λ (u : Store). Owes σ p q r s u M) (sym e) (subst (Owes σ p q r s s) (sym f) still)

  module _ (c : Context) (clock : GoodClock c.clock) (call reply : List ℕ) (bytes : Below 256 call) where
    -- what an act owes, by what was asked
    pub act_owes : (a : Arguments) → FitsArguments a → Answer call reply a (act s c call a).result → Owes σ p q r s (act s c call a).store (note call reply L)
    unfolding act noted
    act_owes Call.Null f A = quiet s _ refl (note_quiet call reply Call.Null L A.reads refl)
    act_owes (Call.Getattr h) f A = quiet _ _ (getattr_store s (cut call h)) (note_quiet call reply (Call.Getattr h) L A.reads refl)
    act_owes (Call.Setattr h a g) f A =
        subst (Owes σ p q r s _) (sym (note_quiet call reply (Call.Setattr h a g) L A.reads refl))
        (setattr_keeps σ p q r s L I c clock (cut call h) a g f).owes
    act_owes (Call.Lookup x) f A = quiet _ _ (lookup_store s (cut call x.directory) (cut call x.name))
        (note_quiet call reply (Call.Lookup x) L A.reads refl)
    act_owes (Call.Access h n) f A = quiet _ _ (access_store s (cut call h) n) (note_quiet call reply (Call.Access h n) L A.reads refl)
    act_owes (Call.Read h o n) f A = quiet _ _ (read_store s (cut call h) o n) (note_quiet call reply (Call.Read h o n) L A.reads refl)
    act_owes (Call.Write h o n b) f A =
        subst (Owes σ p q r s _) (sym (note_quiet call reply (Call.Write h o n b) L A.reads refl))
        (write_keeps σ p q r s L I c clock (cut call h) o n (cut call b) (cut_below call b bytes)).owes
    act_owes (Call.Create x m) f A = (create_made σ p q r s L I c clock call reply bytes x m f A).owes
    act_owes (Call.Mkdir x a) f A = (mkdir_made σ p q r s L I c clock call reply bytes x a f A).owes
    act_owes (Call.Remove x) f A = remove_owes σ p q r s L I c clock call reply bytes x A
    act_owes (Call.Rmdir x) f A = rmdir_owes σ p q r s L I c clock call reply bytes x A
    act_owes (Call.Rename x y) f A = rename_owes σ p q r s L I c clock call reply bytes x y A
    act_owes (Call.Link h x) f A = link_owes σ p q r s L I c clock call reply bytes h x A
    act_owes (Call.Readdir h k v n) f A = quiet _ _ (readdir_store s (cut call h) k v n) (note_quiet call reply (Call.Readdir h k v n) L A.reads refl)
    act_owes (Call.Fsstat h) f A = quiet _ _ (fsstat_store s (cut call h)) (note_quiet call reply (Call.Fsstat h) L A.reads refl)
    act_owes (Call.Fsinfo h) f A = quiet _ _ (fsinfo_store s (cut call h)) (note_quiet call reply (Call.Fsinfo h) L A.reads refl)
    act_owes (Call.Pathconf h) f A = quiet _ _ (pathconf_store s (cut call h)) (note_quiet call reply (Call.Pathconf h) L A.reads refl)
    act_owes (Call.Commit h) f A = quiet _ _ (commit_store s (cut call h) c) (note_quiet call reply (Call.Commit h) L A.reads refl)
    act_owes Call.Unserved f A = quiet s _ refl (note_quiet call reply Call.Unserved L A.reads refl)

  -- the answer to a request that asks
  pub answer_to_lem : (x : Request) (a : Arguments) → Asks x a → Answer x.call (reply_to s x) a (act s x.context x.call a).result
  answer_to_lem x a k =
      let z = acted s x a k (passes_valid s I.valid) in
      record { reads = k.reads; xid = z.xid; procedure = z.procedure; is = z.reply }

  pub clocked : (x : Request) (a : Arguments) → Lent x → Asks x a → GoodClock x.context.clock
  clocked x a l k = record { seconds = l.seconds; nanoseconds = k.clock }

  -- every request
  pub next : (x : Request) → Lent x → Owes σ p q r s (outcome_of s x).store (note x.call (reply_to s x) L)
  next x l = ⊎_elim
      (λ (i : Idle s x). quiet (outcome_of s x).store (note x.call (reply_to s x) L) i.store (i.ledger L))
      (λ (k : (a : Arguments) × Asks x a).
      let a = k.0 in
      let z = acted s x a k.1 (passes_valid s I.valid) in
      subst (λ (u : Store). Owes σ p q r s u (note x.call (reply_to s x) L)) (sym z.store)
      (act_owes x.context (clocked x a l k.1) x.call (reply_to s x) l.bytes a (asked_fits x.call l.bytes a k.1.reads)
      (answer_to_lem x a k.1)))
      (served s x (passes_valid s I.valid))

-- any list of requests
pub run_owes : (σ p q r : ℕ) (w : State) → Inv σ p q r w.store w.ledger → (xs : List Request) → AllLent xs
    → Owes σ p q r w.store (run w xs).store (run w xs).ledger
unfolding run step
run_owes σ p q r w I [] l = (keeps_refl σ p q r w.store w.ledger I).owes
run_owes σ p q r w I (x ∷ xs) l =
    let n = next σ p q r w.store w.ledger I x l.0 in
    let m = run_owes σ p q r (step w x) n.inv xs l.1 in
    owes_trans σ p q r w.store (step w x).store _ (step w x).ledger _ n m

-- ---- a formatted store
module _ (σ p q r : ℕ) (clock : Time) (h : FormatAsked σ p q r clock) where
  s : Store
  s = formatted σ p q r clock

  root_kind : (view s).kind 0 ≡ 2
  unfolding s
  root_kind = kind_at s 0 (omega (arith, formatted_objects σ p q r clock h, h.some_object)) ∙ ap (λ (v : Object). v.kind) (formatted_root σ p q r clock h)

  root_gen : (view s).gen 0 ≡ 0
  unfolding s
  root_gen = gen_at s 0 (omega (arith, formatted_objects σ p q r clock h, h.some_object)) ∙ ap (λ (v : Object). v.generation) (formatted_root σ p q r clock h)

  other_free : (i : ℕ) → i ≢ 0 → ((view s).kind i ≡ 0) × ((view s).gen i ≡ 0)
  unfolding s
  other_free i n = by_cases (dec_lt i (objects s))
      (λ l. let e = formatted_free σ p q r clock h i (omega arith) (omega (arith, formatted_objects σ p q r clock h)) in
      (kind_at s i l ∙ ap (λ (v : Object). v.kind) e, gen_at s i l ∙ ap (λ (v : Object). v.generation) e))
      (λ l. (within_no (objects s) 0 i (object_at s i).kind (omega arith), within_no (objects s) 0 i (object_at s i).generation (omega arith)))

  none_used : (n : ℕ) → ¬ UsedIn (view s) n
  unfolding s
  none_used n u =
      let l = used_in s n u in
      omega (
        arith,
        ap length (text_at s n l),
        ap (λ (v : Name). length v.text)
            (formatted_name σ p q r clock h n (omega (arith, formatted_names σ p q r clock h))).all,
      )

  root_issued : issued (view s) 0 ≡ 1
  root_issued = omega (arith, root_gen, ind_yes (live? (view s) 0) (omega (arith, root_kind)))

  other_issued : (i : ℕ) → i ≢ 0 → issued (view s) i ≡ 0
  other_issued i n = let o = other_free i n in omega (arith, o.1, ind_no (live? (view s) i) (λ l. omega (arith, o.0)))

  pub format_inv : Inv σ p q r (formatted σ p q r clock) (first_ledger σ)
  unfolding s times
  format_inv =
      record {
        valid = formatted_valid σ p q r clock h;
        bytes = formatted_below σ p q r clock h;
        mark = formatted_stamp σ p q r clock h;
        objs = formatted_objects σ p q r clock h;
        nams = formatted_names σ p q r clock h;
        blks = formatted_blocks σ p q r clock h;
        issues =
            record {
              small = h.few_objects;
              each = λ g. (
                (λ m. ⊎_elim
                    (λ (e : g ≡ handle_bytes σ 0 0). (0, 0, e, omega (arith, root_issued)))
                    (λ (y : Memᴰ g []). absurd (Memᴰ.not-nil y))
                    (Memᴰ.cases_cons m)),
                (λ y. let (o, k, e, l) = y in
                    by_cases (ℕ_discrete o 0)
                    (λ z. let w : k ≡ 0 = omega (arith, root_issued, ap (issued (view s)) z) in Memᴰ.head (e ∙ (λ i. handle_bytes σ (z i) (w i))))
                    (λ n. absurd (omega (arith, other_issued o n)))),
              );
              few = λ i. by_cases (ℕ_discrete i 0) (λ z. omega (arith, root_issued, ap (issued (view s)) z)) (λ n. omega (arith, other_issued i n));
              past = λ i l. other_issued i (λ e. omega (arith, h.some_object));
            };
        agrees =
            record {
              order = [];
              each = λ n. sym (ind_no (used? (view s) n) (none_used n));
              lines = λ i. record { handle = handle_bytes σ 0 (sym root_gen i); kind = sym root_kind i; standing = as_root } ∷ [];
            };
      }
