use Rattle.std.proofs.Common.{◌≡◌, ◌++◌, Bool, OnOk, codes, if◌then◌else◌, sym, subst}
use Rattle.std.proofs.lemmas.Bool.{ne_eqb}
use Rattle.tq_import.specs.Messages.{places_rule}
use Rattle.tq_import.proofs.messages.push_number_rule.Goals as goal

pub returns : goal.returns
returns c =
    subst
    (λ (zero : Bool). OnOk c.push_places_rule.result (c.push_places_rule.new.text.items ≡ c.args.text.now.items
    ++ (if zero then codes " is not a whole number of 64 bits: use --decimal NAME=PLACES or --text NAME" else places_rule c.args.places)))
    (sym (ne_eqb c.args.places 0 c.if-places-eq0.false))
    c.push_places_rule.ensures
