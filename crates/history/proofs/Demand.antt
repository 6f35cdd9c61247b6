-- Demand 3, proved: each field of `Kept` from the invariant, and the invariant after any list of requests from any successful format.
-- Assumes nothing.
use mathlib.Core.Path.{◌≡◌, refl, sym, ap, ◌∙◌, subst}
use mathlib.Core.Bool.{◌&&◌}
use mathlib.Core.List.{List}
use Prim.Native.Nat.{ℕ, ◌*◌, ◌<◌, ◌-◌}
use native.Mathlib.Omega.{arith}
use lib.Dec.{eqb, leb, ltb}
use lib.ListN.{length}
use borrow.Author.Tests.{leb-true, ltb-true}
use Rattle.kinds.specs.Layout.{block_length}
use Rattle.kinds.specs.Numbers.{nanoseconds_end, most_objects, most_name_records, most_blocks}
use Rattle.kinds.specs.declared.object.Time.{Time}
use Rattle.kinds.specs.declared.call.How.TheVariants as How
use Rattle.spec.specs.Check.{good_time, good_counts, image_length}
use Rattle.spec.specs.Image.{Store}
use Rattle.spec.specs.Procedures.{cut}
use Rattle.spec.specs.Serve.{formatted, format}
use Rattle.laws.proofs.Count.{by_bool, and_both}
use Rattle.laws.proofs.Formatted.{FormatAsked}
use Rattle.laws.proofs.Valid.{passes_valid}
use Rattle.history.specs.Book.{handle_bytes, first_ledger}
use Rattle.history.specs.Run.{Request, Lent, AllLent, State, step, run}
use Rattle.history.specs.Statement.{HasLine, Kept, formatted_state, Demand3}
use Rattle.history.proofs.Seen.{view}
use Rattle.history.proofs.Inv.{Inv, Owes}
use Rattle.history.proofs.Next.{next, run_owes, format_inv}
use Rattle.history.proofs.Lines.{object_lines_lem, name_lines_lem, current_lined, lined_current, stand_apart}
use Rattle.history.proofs.Counts.{line_count_lem, name_line_count_lem, line_given_lem, directory_line_lem, file_names_lem, file_lines_lem, free_blocks_lem, free_names_lem, available_objects, one_block}
use Rattle.history.proofs.Paths.{stored_path_lem, book_path_lem, name_path_lem, line_path_lem}
use Rattle.history.proofs.Later.{removed_old, given_stays_lem, removed_stays, same_between}
use Rattle.history.proofs.Answers.{names_at, getattr_live, getattr_size, getattr_links, getattr_stale, fsstat_room}
use Rattle.history.proofs.Carried.{carried, added_fresh}
use Rattle.history.proofs.Nospc.{blocks_left_lem, names_left_lem, objects_left_lem, write_nothing_lem, many_names_lem, room}
use Rattle.history.proofs.Only.{only_room_lem, only_many}
use Rattle.history.proofs.Conditions.{by_book, by_store, link_book, link_store, line_regular, line_made}
use Rattle.history.proofs.Again.{found_again, sent_twice_lem}
use Rattle.history.proofs.Linked.{linked_line_lem}
use Rattle.history.proofs.Losing.{remove_loses, rename_loses}
use Rattle.history.proofs.Onto.{onto_itself_lem}

-- the statement holds of every state that the invariant holds of
pub kept : (σ p q r : ℕ) (w : State) → Inv σ p q r w.store w.ledger → Kept σ p q r w
unfolding step
kept σ p q r w I =
    let s = w.store in
    let L = w.ledger in
    let after : (x : Request) → Lent x → Owes σ p q r s (step w x).store (step w x).ledger = λ x l. next σ p q r s L I x l in
    let later : (xs : List Request) → AllLent xs → Owes σ p q r s (run w xs).store (run w xs).ledger = λ xs l. run_owes σ p q r w I xs l in
    record {
      check = passes_valid s I.valid;
      mark = I.mark;
      object_count = I.objs;
      name_count = I.nams;
      block_count = I.blks;
      object_lines = object_lines_lem σ p q r s L I;
      name_lines = name_lines_lem σ p q r s L I;
      line_once = stand_apart σ p q r s L I;
      line_count = line_count_lem σ p q r s L I;
      name_line_count = name_line_count_lem σ p q r s L I;
      line_given = line_given_lem σ p q r s L I;
      added_line = added_fresh σ p q r s L I;
      linked_line = linked_line_lem σ p q r s L I;
      removed_name = λ x l a h e m t. remove_loses σ p q r s L I x t a h e m;
      handle_lined = λ x l h t c.
          let (o, v, e) = carried σ p q r s L I x l t h c in
          let u = (step w x).store in
          let M = (step w x).ledger in
          ((view u).kind o, subst (λ (g : List ℕ). HasLine M.book g ((view u).kind o)) (sym e) (current_lined σ p q r u M (after x l).inv o v));
      stored_path = stored_path_lem σ p q r s L I;
      book_path = book_path_lem σ p q r s L I;
      directory_line = directory_line_lem σ p q r s L I;
      file_names = file_names_lem σ p q r s L I;
      file_lines = file_lines_lem σ p q r s L I;
      name_path = name_path_lem σ p q r s L I;
      line_path = line_path_lem σ p q r s L I;
      links = getattr_links σ p q r s L I;
      one_place = λ i j k l a b _ _ m n e. one_block σ p q r s L I i j k l a b m n e;
      sizes = getattr_size σ p q r s L I;
      totals = λ x h kind k l. let (a, b, c, d, e, f, g) = fsstat_room σ p q r s L I x h kind k l in (a, b, e);
      places_fit = omega (arith, free_blocks_lem σ p q r s L I);
      free_bytes = λ x h kind k l.
          let (a, b, c, d, e, f, g) = fsstat_room σ p q r s L I x h kind k l in
          let z = ap (λ (n : ℕ). block_length * n) (sym (blocks_left_lem σ p q r s L I)) in
          (c ∙ z, d ∙ z);
      objects_fit = omega (arith, available_objects σ p q r s L I);
      available = λ x h kind k l.
          let (a, b, c, d, e, f, g) = fsstat_room σ p q r s L I x h kind k l in
          let z = sym (objects_left_lem σ p q r s L I) in
          (f ∙ z, g ∙ z);
      names_fit = omega (arith, free_names_lem σ p q r s L I);
      free_names = sym (names_left_lem σ p q r s L I);
      given_stays = λ g m xs l. given_stays_lem σ p q r s (run w xs).store L (run w xs).ledger I (later xs l).inv (later xs l).grew g m;
      same_object = λ g kind a.
          let (o, v, e, f) = lined_current σ p q r s L I g kind a in
          let n = (view s).gen o in (
            o,
            n,
            names_at σ p q r s L I g o n kind v e refl f,
            (λ xs ys k l j b.
                let t = run w xs in
                let u = run t ys in
                let J = later xs k in
                let K = run_owes σ p q r t J.inv ys l in
                let c : HasLine u.ledger.book (handle_bytes σ o n) j = subst (λ (h : List ℕ). HasLine u.ledger.book h j) e b in
                let (x, y) = same_between σ p q r s t.store u.store L u.ledger I K.inv J.grew K.grew o v j c in
                names_at σ p q r t.store t.ledger J.inv g o n kind (omega arith) e x (y ∙ f)),
          );
      live = getattr_live σ p q r s L I;
      stale = λ g d xs l x h k e.
          let (o, n, f, m, b, c) = removed_old σ p q r s L I g d in
          let y = later xs l in
          getattr_stale σ p q r (run w xs).store (run w xs).ledger y.inv x h k o n b c (omega (arith, y.grew.older o)) (e ∙ f);
      never_again = λ g d xs l. removed_stays σ p q r s (run w xs).store L (run w xs).ledger I (later xs l).inv (later xs l).grew g d;
      room = λ x m a. room σ p q r s L I x (by_store σ p q r s L I x a);
      only_room = λ x l e. let (m, a, b) = only_room_lem σ p q r s L I x e in (m, by_book σ p q r s L I x l a, b);
      many_names = λ x h a k m.
          let (o, d, y, e) = link_store σ p q r s L I x h a m in
          let z = many_names_lem σ p q r s L I x h a o d k y in
          ((λ t. omega (arith, z.0 t, e, file_lines_lem σ p q r s L I (cut x.call h) m.file)), (λ t. z.1 (omega (arith, e))));
      only_many_names = λ x l t.
          let (h, a, o, d, k, y, n) = only_many σ p q r s L I x t in
          let (m, e) = link_book σ p q r s L I x l h a o d y in
          (h, a, k, m, omega (arith, e, file_lines_lem σ p q r s L I (cut x.call h) m.file));
      write_nothing = λ x h offset bytes k y e. write_nothing_lem σ p q r s L I x h offset bytes _ k (line_regular σ p q r s L I (cut x.call h) y).1 e;
      line_found = λ x l a manner h e y t. found_again σ p q r s L I x l a manner h e y t;
      made_before = λ x l a verifier h k m y t.
          let (ok, store) = line_made σ p q r s L I x a verifier h k m y t in
          let (_, ledger) = found_again σ p q r s L I x l a (How.Exclusive verifier) h k.reads y ok in
          (ok, λ i. record { store = store i; ledger = ledger i });
      sent_twice = λ x y l m e a verifier k j t.
          let (ok, same, store, ledger) = sent_twice_lem σ p q r s L I x y l m e a verifier k j t in
          (ok, same, λ i. record { store = store i; ledger = ledger i });
      onto_itself = λ x l a b h k m n.
          let (ok, store, ledger) = onto_itself_lem σ p q r s L I x l a b k h m n in
          (ok, λ i. record { store = store i; ledger = ledger i });
      replaced = λ x l a b h g k m n two t. rename_loses σ p q r s L I x t a b h g k.reads m n two;
    }

-- what a successful format was asked for, and what it made
asked_for : (buffer : Store) (σ p q r : ℕ) (clock : Time) → σ < 4294967296 → clock.seconds < 4294967296 → (format buffer σ p q r clock).number ≡ 0
    → FormatAsked σ p q r clock × ((format buffer σ p q r clock).store ≡ formatted σ p q r clock)
unfolding format good_time good_counts
asked_for buffer σ p q r clock a b e =
    by_bool (ltb clock.nanoseconds nanoseconds_end)
    (λ t. by_bool (leb 1 p && leb p most_objects && leb q most_name_records && leb r most_blocks)
    (λ u. by_bool (eqb (length buffer) (image_length p q r))
    (λ v.
    let x = and_both (leb 1 p && leb p most_objects && leb q most_name_records) (leb r most_blocks) u in
    let y = and_both (leb 1 p && leb p most_objects) (leb q most_name_records) x.0 in
    let z = and_both (leb 1 p) (leb p most_objects) y.0 in (
      record {
        mark_fits = a;
        some_object = leb-true 1 p z.0;
        few_objects = leb-true p most_objects z.1;
        few_names = leb-true q most_name_records y.1;
        few_blocks = leb-true r most_blocks x.1;
        seconds = b;
        nanoseconds = ltb-true clock.nanoseconds nanoseconds_end t;
      },
      rw (t, u, v),
    ))
    (λ v. absurd (omega (arith, rw (t, u, v) at e))))
    (λ u. absurd (omega (arith, rw (t, u) at e))))
    (λ t. absurd (omega (arith, rw t at e)))

-- DEMAND 3
pub demand_3 : Demand3
demand_3 buffer σ p q r clock a b e xs l =
    let (h, made) = asked_for buffer σ p q r clock a b e in
    let start = formatted_state buffer σ p q r clock in
    let I : Inv σ p q r start.store start.ledger = subst (λ (s : Store). Inv σ p q r s (first_ledger σ)) (sym made) (format_inv σ p q r clock h) in
    kept σ p q r (run start xs) (run_owes σ p q r start I xs l).inv
