-- Chunks of the rows of a table: their partition ids are together those of the table.
use Rattle.std.proofs.Common.{◌≡◌, ◌+◌, ◌/◌, ◌<◌, ◌++◌, ◌∷◌, ◌∙◌, ℕ, zero, suc, List, [], ap, append-nil, append_assoc, arith, get_or, length, map, sym, take}
use Rattle.std.specs.Global.{Vec}
use Rattle.std.proofs.lemmas.List.{take_all}
use Rattle.std.proofs.lemmas.List.Concat.{flat_map-cons}
use Rattle.tq_base.specs.declared.fragment.Fragment.{Fragment}
use Rattle.tq_base.specs.RowValues.{value_at}
use Rattle.tq_run.specs.Results.{IsResultList}
use Rattle.tq_table.specs.Sink.{bytes_of}
use Rattle.tq_exec.specs.Partitions.{IsChunk, partition_of, chunk_start}

module _ (partition : Fragment → ℕ) (rows : List Fragment) where
  abbrev up_to : ℕ → List ℕ
  up_to chunk = map partition (take (chunk_start (length rows) chunk) rows)

  -- chunks that follow one another
  follow : (i : ℕ) (chunks : List (Vec ℕ)) → ((k : ℕ) (d : Vec ℕ) → k < length chunks → up_to (i + k) ++ (get_or chunks k d).items ≡ up_to (i + k + 1))
      → up_to i ++ bytes_of chunks ≡ up_to (i + length chunks)
  follow i [] each = let same : i ≡ i + 0 = omega arith in append-nil (up_to i) ∙ ap up_to same
  follow i (s ∷ chunks) each =
      let here : i + 0 ≡ i = omega arith in
      let next : i + 0 + 1 ≡ i + 1 = omega arith in
      let end : i + 1 + length chunks ≡ i + suc (length chunks) = omega arith in
      ap (λ l. up_to i ++ l) (flat_map-cons (λ (t : Vec ℕ). t.items) s chunks)
      ∙ sym (append_assoc (up_to i) s.items (bytes_of chunks))
      ∙ ap (λ l. l ++ bytes_of chunks) (ap (λ n. up_to n ++ s.items) (sym here) ∙ each 0 s (omega arith) ∙ ap up_to next)
      ∙ follow (i + 1) chunks
      (λ k d less.
      let at : i + suc k ≡ i + 1 + k = omega arith in
      ap (λ n. up_to n ++ (get_or chunks k d).items) (sym at) ∙ each (suc k) d (omega (arith, less)) ∙ ap (λ n. up_to (n + 1)) at)
      ∙ ap up_to end

-- all chunks of a table
pub chunks_are : (cuts : List ℕ) (column : ℕ) (rows : List Fragment) (chunks : List (Vec ℕ))
    → IsResultList (λ i ids. IsChunk cuts column rows i ids.items) (length rows / 65536 + 1) chunks
    → bytes_of chunks ≡ map (λ (row : Fragment). partition_of cuts (value_at row.values column)) rows
chunks_are cuts column rows chunks are =
    let partition = λ (row : Fragment). partition_of cuts (value_at row.values column) in
    let whole : chunk_start (length rows) (0 + length chunks) ≡ length rows = omega (arith, are.0) in
    let none : 0 ≡ chunk_start (length rows) 0 = omega arith in
    ap (λ n. map partition (take n rows) ++ bytes_of chunks) none
    ∙ follow partition rows 0 chunks
    (λ k d less.
    let at : 0 + k ≡ k = omega arith in
    ap (λ n. up_to partition rows n ++ (get_or chunks k d).items) at ∙ are.1 k d (omega (arith, less, are.0)) ∙ ap (λ n. up_to partition rows (n + 1)) (sym at))
    ∙ ap (λ n. map partition (take n rows)) whole
    ∙ ap (map partition) (take_all (length rows) rows (omega arith))

-- one more that holds of its place
pub pushed : {X : Type 0} (P : ℕ → X → Type 0) (xs : List X) (x : X) → ((k : ℕ) (d : X) → k < length xs → P k (get_or xs k d)) → P (length xs) x
    → (k : ℕ) (d : X) → k < length (xs ++ x ∷ []) → P k (get_or (xs ++ x ∷ []) k d)
pushed P [] x each last zero d less = last
pushed P [] x each last (suc k) d less = absurd (omega (arith, less))
pushed P (y ∷ xs) x each last zero d less = each 0 d (omega arith)
pushed P (y ∷ xs) x each last (suc k) d less = pushed (λ n. P (suc n)) xs x (λ n e under. each (suc n) e (omega (arith, under))) last k d (omega (arith, less))
