use Rattle.std.proofs.Common.{◌≡◌, ◌∙◌, ◌∷◌, [], List, ℕ, ap, length, subst, sym}
use Rattle.std.specs.Prelude.{IfOk}
use Rattle.std.specs.List.{repeat}
use Rattle.std.proofs.lemmas.Result.{IfOk-weaker}
use Rattle.csv.specs.Records.{fields_of}
use Rattle.tq_import.specs.declared.plan.Conversion.TheVariants.{Number}
use Rattle.tq_import.specs.Encodings.{utf8_of}
use Rattle.tq_import.specs.Files.{AreKindsOf, records_in}
use Rattle.tq_import.specs.Kinds.{kinds_after}
use Rattle.tq_import.proofs.whole.find_file_kinds.Goals as goal

pub returns : goal.returns
returns g c text is =
    let delimiter = c.args.options.now.delimiter in
    let numbers = c.args.options.now.numbers in
    let all = records_in c.args.options.now text in
    let has = c.record_reader-reader.ensures (utf8_of c.args.options.now.encoding text) (c.over-decoder.ensures text is) in
    let (rest, split, left) = rw c.if-not-branch.false at (c.in_ok-next_record.ensures delimiter all has) in
    let width : c.len.result ≡ length (fields_of c.next_record.new.record) = c.len.ensures in
    subst (λ (l : List (List (List ℕ))). IfOk c.find_kinds.result (λ kinds. AreKindsOf numbers l kinds.items)) (sym split)
    (IfOk-weaker c.find_kinds.result _ _ (λ kinds are. are ∙ ap (λ (n : ℕ). kinds_after numbers (repeat n (Number 0 ∷ [])) rest) width) (c.find_kinds.ensures delimiter rest left))

pub returns-then-not-branch : goal.returns-then-not-branch
returns-then-not-branch g c text is =
    let options = c.args.options.now in
    let has = c.record_reader-reader.ensures (utf8_of options.encoding text) (c.over-decoder.ensures text is) in
    let none = rw c.if-not-branch.true at (c.in_ok-next_record.ensures options.delimiter (records_in options text) has) in
    subst (λ (l : List (List (List ℕ))). AreKindsOf options.numbers l c.new.result.items) (sym none) c.new.ensures.items
