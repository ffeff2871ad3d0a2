use Rattle.std.proofs.Common.{◌≡◌, ◌∙◌, ◌++◌, ◌+◌, ◌∷◌, [], List, ℕ, ap, append_assoc, append-nil, sym, add-one, refl}
use Rattle.std.specs.Prelude.{if◌then◌else◌}
use Rattle.csv.specs.Records.{fields_of}
use Rattle.tq_import.specs.Plans.{is_value, places_of, value_places}
use Rattle.tq_import.specs.Records.{field_of}
use Rattle.tq_import.proofs.planning.plan_columns.Goals as goal

pub places-init : goal.places-init
places-init c =
    let k = c.in_ok-columns.ensures in
    record { key = places_of c.in_ok-columns.columns.items; is_key = k.key; places = sym (append-nil _); each = k.each c.args.found.now; table = k.table }

pub places-preserved : goal.places-preserved
places-preserved c =
    let i = c.places.invariant in
    let a = c.in_ok-add_value.ensures in
    let options = c.args.options.now in
    let header = fields_of c.args.header.now in
    let here : List ℕ = if is_value options (field_of header c.places.place) then c.places.place ∷ [] else [] in
    let before = value_places options header c.places.place in
    let more : before ++ here ≡ value_places options header (c.places.place + 1) = rw (add-one) refl in
    record {
      key = i.key;
      is_key = i.is_key;
      places = a.places ∙ ap (λ (l : List ℕ). l ++ here) i.places ∙ append_assoc i.key before here ∙ ap (λ (l : List ℕ). i.key ++ l) more;
      each = a.each i.each;
      table = a.table i.table;
    }
