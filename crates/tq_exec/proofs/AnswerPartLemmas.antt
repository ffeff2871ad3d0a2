-- Parts of an answer that follow one another are the whole answer.
use Rattle.std.proofs.Common.{◌≡◌, ◌<◌, ◌++◌, ◌∷◌, ◌∙◌, ℕ, suc, List, [], ap, append-nil, arith, get_or, length, length-append, map, refl, subst, sym}
use Rattle.std.specs.Global.{Vec}
use Rattle.std.specs.Prelude.{All}
use Rattle.std.proofs.lemmas.Grind.{flat_map-append}
use Rattle.std.proofs.lemmas.List.{get_or-map, length-map}
use Rattle.std.proofs.lemmas.List.Concat.{flat_map-cons}
use Rattle.std.proofs.lemmas.List.Elements.{All-cons, All-nil}
use Rattle.std.proofs.lemmas.List.Sums.{sum_by-cons}
use Rattle.tq_base.specs.declared.fragment.Fragment.{Fragment}
use Rattle.tq_base.specs.Layers.{IsLayers}
use Rattle.tq_base.specs.Ranges.{one_after_other, AreAscending}
use Rattle.tq_base.specs.RowLists.{RowList}
use Rattle.tq_agg.specs.Grouping.{Row}
use Rattle.tq_table.specs.Merging.{all_rows, AreOfWidth}
use Rattle.tq_table.specs.Sink.{bytes_of}
use Rattle.tq_table.specs.Text.{rows_text}
use Rattle.tq_exec.specs.AnswerParts.{AreMade, HaveAnswer, IsAnswerPart, IsMade}
use Rattle.tq_exec.specs.declared.answer_parts.AnswerPart.{AnswerPart}
use Rattle.tq_exec.specs.declared.answer_parts.Made.{Made}
use Rattle.tq_exec.specs.declared.answer_parts.Wanted.{Wanted}
use Rattle.tq_exec.specs.declared.answer_parts.Wanted.TheVariants.{Rows, Text}
use Rattle.tq_exec.specs.Parts.{AreParts}
use Rattle.tq_exec.proofs.PartLemmas.{parts_have_layers}

abbrev rows_in_parts : List AnswerPart → List (List Fragment)
rows_in_parts parts = map (λ (part : AnswerPart). part.rows) parts

abbrev made_in_parts : List AnswerPart → List Made
made_in_parts parts = map (λ (part : AnswerPart). part.made) parts

-- one more part in front
made_first : (wanted : Wanted) (width : ℕ) (rows others : List Fragment) (one : Made) (made : List Made) → IsMade wanted width rows one → AreMade wanted width others made → AreMade wanted width (rows ++ others) (one ∷ made)
made_first Rows width rows others one made first rest = (
  flat_map-cons (λ (r : RowList). r.items) one.rows (map (λ (m : Made). m.rows) made)
      ∙ ap (λ l. l ++ all_rows (map (λ (m : Made). m.rows) made)) first.0
      ∙ ap (λ l. rows ++ l) rest.0,
  All-cons (AreOfWidth width) one.rows (map (λ (m : Made). m.rows) made) first.1 rest.1,
)
made_first (Text form) width rows others one made first rest = (
  flat_map-cons (λ (t : Vec ℕ). t.items) one.text (map (λ (m : Made). m.text) made)
      ∙ ap (λ l. l ++ bytes_of (map (λ (m : Made). m.text) made)) first.0
      ∙ ap (λ l. rows_text form rows ++ l) rest.0
      ∙ sym (flat_map-append _ rows others),
  omega (arith, first.1, rest.1, length-append rows others, sum_by-cons (λ (m : Made). m.len) one made),
)

made_nothing : (wanted : Wanted) (width : ℕ) → AreMade wanted width [] []
made_nothing Rows width = (refl, All-nil (AreOfWidth width))
made_nothing (Text form) width = (refl, refl)

-- what is made of the parts, one after the other
made_of_all : (wanted : Wanted) (width : ℕ) (parts : List AnswerPart) → All (λ (part : AnswerPart). IsMade wanted width part.rows part.made) parts → AreMade wanted width (one_after_other (rows_in_parts parts)) (made_in_parts parts)
made_of_all wanted width [] each = made_nothing wanted width
made_of_all wanted width (part ∷ parts) each =
    rw (flat_map-cons (λ (l : List Fragment). l) part.rows (rows_in_parts parts))
    (made_first wanted width part.rows (one_after_other (rows_in_parts parts)) part.made (made_in_parts parts) (each 0 part (omega arith))
    (made_of_all wanted width parts (λ k d less. each (suc k) d (omega (arith, less)))))

-- the rows of a part, read from those of all
pub rows_at : (parts : List AnswerPart) (i : ℕ) (d : List Fragment) → i < length parts → (e : AnswerPart) × (get_or (rows_in_parts parts) i d ≡ (get_or parts i e).rows)
rows_at [] i d less = absurd (omega (arith, less))
rows_at (part ∷ parts) i d less = (part, get_or-map (λ (p : AnswerPart). p.rows) (part ∷ parts) i part d less)

-- parts in order, which add up to the answer
pub parts_answer : (wanted : Wanted) (width : ℕ) (part : ℕ → Row → ℕ → ℕ) (parts : List AnswerPart) (times : Row → ℕ → ℕ) → AreParts (length parts) part times
    → ((i : ℕ) (d : AnswerPart) → i < length parts → IsAnswerPart wanted width (part i) (get_or parts i d))
    → AreAscending (rows_in_parts parts)
    → HaveAnswer wanted width times (made_in_parts parts)
parts_answer wanted width part parts times are each order =
    let lists = rows_in_parts parts in
    let many : length lists ≡ length parts = length-map parts (λ (part : AnswerPart). part.rows) in
    record {
      rows = one_after_other lists;
      layers = parts_have_layers lists part times (subst (λ n. AreParts n part times) (sym many) are)
          (λ i d less.
          let within : i < length parts = omega (arith, less, many) in
          let (e, is) = rows_at parts i d within in
          rw is ((each i e within).layers))
          order;
      are = made_of_all wanted width parts (λ k d less. (each k d less).made);
    }

-- one part is the whole answer
pub one_answer : (wanted : Wanted) (width : ℕ) (part : AnswerPart) (times : Row → ℕ → ℕ) → IsAnswerPart wanted width times part → HaveAnswer wanted width times (made_in_parts (part ∷ []))
one_answer wanted width part times is = record {
  rows = one_after_other (rows_in_parts (part ∷ []));
  layers = subst (IsLayers times) (sym (flat_map-cons (λ (l : List Fragment). l) part.rows [] ∙ append-nil part.rows)) is.layers;
  are = made_of_all wanted width (part ∷ []) (All-cons (λ (one : AnswerPart). IsMade wanted width one.rows one.made) part [] is.made (All-nil (λ (one : AnswerPart). IsMade wanted width one.rows one.made)));
}
