-- The demands of the store check as the tests that it makes: a store passes exactly where they all hold. Assumes nothing.
use mathlib.Core.Path.{◌≡◌}
use mathlib.Core.Bool.{true}
use Rattle.spec.specs.Count.{every}
use Rattle.spec.specs.Image.{Store, objects, names, blocks}
use Rattle.spec.specs.Check.{good_shape, good_root, good_object, good_name_record, is_distinct, good_namings, is_used_once, leads_to_root, records_pass, passes}
use Rattle.laws.proofs.Count.{and_both}

-- the demands on the records
pub record RecordDemands (s : Store) : Type 0 where
  pub root : good_root s ≡ true
  pub good_objects : every (objects s) (good_object s) ≡ true
  pub good_names : every (names s) (good_name_record s) ≡ true
  pub distinct : every (names s) (is_distinct s) ≡ true
  pub named : every (objects s) (good_namings s) ≡ true
  pub used_once : every (blocks s) (is_used_once s) ≡ true
  pub leads : every (objects s) (leads_to_root s) ≡ true

-- and that on the shape
pub record Demands (s : Store) : Type 0 where
  pub shape : good_shape s ≡ true
  pub on_records : RecordDemands s

pub records_by : (s : Store) → RecordDemands s → records_pass s ≡ true
unfolding records_pass
records_by s d = rw (d.root, d.good_objects, d.good_names, d.distinct, d.named, d.used_once, d.leads)

pub record_demands : (s : Store) → records_pass s ≡ true → RecordDemands s
unfolding records_pass
record_demands s e =
    let b = and_both _ (every (objects s) (leads_to_root s)) e in
    let c = and_both _ (every (blocks s) (is_used_once s)) b.0 in
    let d = and_both _ (every (objects s) (good_namings s)) c.0 in
    let f = and_both _ (every (names s) (is_distinct s)) d.0 in
    let g = and_both _ (every (names s) (good_name_record s)) f.0 in
    let h = and_both (good_root s) (every (objects s) (good_object s)) g.0 in
    record {
      root = h.0;
      good_objects = h.1;
      good_names = g.1;
      distinct = f.1;
      named = d.1;
      used_once = c.1;
      leads = b.1;
    }

pub passes_by : (s : Store) → Demands s → passes s ≡ true
unfolding passes
passes_by s d = rw (d.shape, records_by s d.on_records)

pub demands : (s : Store) → passes s ≡ true → Demands s
unfolding passes
demands s e =
    let a = and_both (good_shape s) (records_pass s) e in
    record { shape = a.0; on_records = record_demands s a.1 }
