-- The path of MNT: the statuses with which it fails, and where it leads in a store that passes its check. Assumes nothing.
use mathlib.Core.Path.{◌≡◌, refl, ap, ◌∙◌, subst}
use mathlib.Core.Bool.{true, not}
use mathlib.Core.Option.{Option, some, none}
use mathlib.Core.List.{List, [], ◌∷◌}
use Prim.Native.Nat.{ℕ, ◌<◌}
use lib.Dec.{eqb, lit<}
use borrow.Author.Tests.{not-false}
use Rattle.kinds.specs.Numbers.{NOTDIR, INVAL, SERVERFAULT}
use Rattle.spec.specs.Checked.{passed}
use Rattle.spec.specs.Count.{lowest}
use Rattle.spec.specs.Image.{Store, objects, names, name_at}
use Rattle.spec.specs.Procedures.Names.{check_in}
use Rattle.spec.specs.Room.{is_directory, is_used_name, is_naming, directory_of, parent}
use Rattle.laws.proofs.Count.{and_both, lowest_passes}
use Rattle.laws.proofs.GoodKept.{used_of}
use Rattle.laws.proofs.Passed.{same_passed, bind_passed, refuse_passed, name_passed, found_record, look_found}
use Rattle.laws.proofs.Valid.{Valid, used_true}
use Rattle.history.proofs.Statuses.{Failing, Sure, tells_passed, tells_refused, tells_bind, tells_if, sure_in}
use Rattle.mount_spec.specs.Path.{starts_with_slash, components, enter, walk, root, mount_point}
use Rattle.mount_spec.specs.Procedures.{check_mount}
use Rattle.mount_spec.specs.Table.{Table, taking, adding, add_pair, find_pair, available_row}

-- ---- the statuses: not OK, and of 32 bits
walk_sure : (s : Store) (o : ℕ) (texts : List (List ℕ)) → Sure (walk s o texts)
unfolding walk enter
walk_sure s o [] = tells_passed Failing o
walk_sure s o (text ∷ texts) =
    tells_bind Failing (enter s o text) _
    (tells_if Failing (not (is_directory s o)) NOTDIR _ (λ _. (lit< tt, lit< tt)) (λ _. sure_in s o text)) (λ next _. walk_sure s next texts)

point_sure : (s : Store) (path : List ℕ) → Sure (mount_point s path)
unfolding mount_point
point_sure s path =
    tells_if Failing (not (starts_with_slash path)) INVAL _ (λ _. (lit< tt, lit< tt)) (λ _.
    tells_bind Failing (walk s root (components path)) _ (walk_sure s root (components path)) (λ o _.
    tells_if Failing (not (is_directory s o)) NOTDIR _ (λ _. (lit< tt, lit< tt)) (λ _. tells_passed Failing o)))

add_sure : (t : Table) (host : ℕ) (path : List ℕ) → Sure (add_pair t host path)
unfolding add_pair
add_sure t host path = from (find_pair t host path)
  where
    take : (x : Option ℕ) → Sure (taking t host path x)
    take none = tells_refused Failing SERVERFAULT (lit< tt, lit< tt)
    take (some r) = tells_passed Failing _

    from : (x : Option ℕ) → Sure (adding t host path x)
    from none = take (available_row t)
    from (some r) = tells_passed Failing t

pub mount_sure : (s : Store) (t : Table) (host : ℕ) (path : List ℕ) → Sure (check_mount s t host path)
unfolding check_mount
mount_sure s t host path =
    tells_bind Failing (mount_point s path) _ (point_sure s path) (λ o _.
    tells_bind Failing (add_pair t host path) _ (add_sure t host path) (λ u _. tells_passed Failing (o, u)))

-- ---- where a path leads
module _ (s : Store) (good : Valid s) where
  parent_below : (o : ℕ) → parent s o < objects s
  unfolding parent is_naming
  parent_below o = from (lowest (names s) (is_naming s o)) refl
    where
      from : (x : Option ℕ) → lowest (names s) (is_naming s o) ≡ x → directory_of s x < objects s
      from none e = good.shaped.some_object
      from (some n) e =
          let p = lowest_passes (is_naming s o) (names s) n e in
          let u = used_true s n (and_both (is_used_name s n) (eqb (name_at s n).child o) p.passes).0 in
          (used_of s n u (good.good_names n p.below)).directory

  enter_below : (o : ℕ) (text : List ℕ) (p : ℕ) → o < objects s → enter s o text ≡ passed p → p < objects s
  unfolding enter check_in
  enter_below o text p l e =
      refuse_passed (not (is_directory s o)) NOTDIR _ p e (λ _ f.
      name_passed text _ p f (λ _ g.
      look_found (λ i. i < objects s) s o text p g l (parent_below o) (λ n q.
      let (b, u, _, _) = found_record s o text n q in (used_of s n u (good.good_names n b)).child)))

  walk_below : (texts : List (List ℕ)) (o p : ℕ) → o < objects s → walk s o texts ≡ passed p → p < objects s
  unfolding walk
  walk_below [] o p l e = subst (λ (i : ℕ). i < objects s) (same_passed o p e) l
  walk_below (text ∷ texts) o p l e = bind_passed (enter s o text) _ p e (λ i f g. walk_below texts i p (enter_below o text i l f) g)

-- a path that leads somewhere starts with a slash, and leads to a directory of the store
pub point_slash : (s : Store) (path : List ℕ) (o : ℕ) → mount_point s path ≡ passed o → starts_with_slash path ≡ true
unfolding mount_point
point_slash s path o e = refuse_passed (not (starts_with_slash path)) INVAL _ o e (λ t _. not-false (starts_with_slash path) t)

pub point_directory : (s : Store) → Valid s → (path : List ℕ) (o : ℕ) → mount_point s path ≡ passed o → (o < objects s) × (is_directory s o ≡ true)
unfolding mount_point
point_directory s good path o e =
    refuse_passed (not (starts_with_slash path)) INVAL _ o e (λ _ f.
    bind_passed (walk s root (components path)) _ o f (λ p g h.
    refuse_passed (not (is_directory s p)) NOTDIR _ o h (λ t z.
    subst (λ (i : ℕ). (i < objects s) × (is_directory s i ≡ true)) (same_passed p o z)
    (walk_below s good (components path) root p good.shaped.some_object g, not-false (is_directory s p) t))))

-- what MNT's checks tell where they pass
pub mount_passed : (s : Store) (t : Table) (host : ℕ) (path : List ℕ) (p : ℕ × Table) → check_mount s t host path ≡ passed p
    → (mount_point s path ≡ passed p.0) × (add_pair t host path ≡ passed p.1)
unfolding check_mount
mount_passed s t host path p e =
    bind_passed (mount_point s path) _ p e (λ o a f.
    bind_passed (add_pair t host path) _ p f (λ u b g.
    let z = same_passed (o, u) p g in
    (a ∙ ap (λ (x : ℕ × Table). passed x.0) z, b ∙ ap (λ (x : ℕ × Table). passed x.1) z)))
