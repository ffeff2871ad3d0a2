use Rattle.std.proofs.Common.{◌≡◌, ◌∙◌, ◌<◌, ◌≤◌, ◌+◌, ◌++◌, ◌∷◌, [], List, Some, Ok, Result, ℕ, ◌⊎◌, inl, inr, true, ap, sym, arith, length, length-append, take, slice_get, rules}
use Rattle.std.specs.Result.{is_ok}
use Rattle.std.proofs.lemmas.List.{take-append-le, take_all}
use Rattle.std.proofs.lemmas.Option.{slice_get_read}
use Rattle.tq_base.specs.declared.catalogue.Column.{Column}
use Rattle.tq_base.specs.declared.catalogue.Schema.{Schema}
use Rattle.tq_event.specs.declared.fault.LoadFaultKind.{LoadFaultKind}
use Rattle.tq_event.specs.declared.file.TableFile.{TableFile}
use Rattle.tq_event.specs.Loading.{columns_of, next_name}
use Rattle.tq_load.specs.Parts.{HoldsAt}
use Rattle.tq_load.proofs.Pushed.{pushed_at}
use Rattle.tq_load.proofs.headers.read_schemas.Goals as goal

same_file : (files : List TableFile) (n t : ℕ) (a b : TableFile) → slice_get files n ≡ Some a → t ≡ n → slice_get files t ≡ Some b → a ≡ b
same_file files n t a b first here second = let both : Some a ≡ Some b = sym first ∙ ap (slice_get files) (sym here) ∙ second in cc both

module _ (files : List TableFile) (schemas : List Schema) (file : TableFile) (schema : Schema) (here : slice_get files (length schemas) ≡ Some file) where
  named_more : next_name schemas file.name ≡ Ok schema.name → ((t : ℕ) → HoldsAt files schemas t (λ f s. next_name (take t schemas) f.name ≡ Ok s.name))
      → (t : ℕ) → HoldsAt files (schemas ++ schema ∷ []) t (λ f s. next_name (take t (schemas ++ schema ∷ [])) f.name ≡ Ok s.name)
  named_more named before t f s is_file is_schema = by (pushed_at schemas schema t s is_schema)
    where
      by : ((t < length schemas) × (slice_get schemas t ≡ Some s)) ⊎ ((t ≡ length schemas) × (schema ≡ s)) → next_name (take t (schemas ++ schema ∷ [])) f.name ≡ Ok s.name
      by (inl (less, at)) = ap (λ (l : List Schema). next_name l f.name) (take-append-le t schemas (schema ∷ []) (omega (arith, less))) ∙ before t f s is_file at
      by (inr (last, same)) =
          ap (λ (l : List Schema). next_name l f.name) (take-append-le t schemas (schema ∷ []) (omega (arith, last)) ∙ take_all t schemas (omega (arith, last)))
          ∙ ap (λ (q : TableFile). next_name schemas q.name) (sym (same_file files (length schemas) t file f here last is_file))
          ∙ named
          ∙ ap (λ (q : Schema). let r : Result (List ℕ) LoadFaultKind = Ok q.name in r) same

  headed_more : columns_of file.bytes ≡ Ok schema.columns → ((t : ℕ) → HoldsAt files schemas t (λ f s. columns_of f.bytes ≡ Ok s.columns))
      → (t : ℕ) → HoldsAt files (schemas ++ schema ∷ []) t (λ f s. columns_of f.bytes ≡ Ok s.columns)
  headed_more headed before t f s is_file is_schema = by (pushed_at schemas schema t s is_schema)
    where
      by : ((t < length schemas) × (slice_get schemas t ≡ Some s)) ⊎ ((t ≡ length schemas) × (schema ≡ s)) → columns_of f.bytes ≡ Ok s.columns
      by (inl (less, at)) = before t f s is_file at
      by (inr (last, same)) =
          ap (λ (q : TableFile). columns_of q.bytes) (sym (same_file files (length schemas) t file f here last is_file))
          ∙ headed
          ∙ ap (λ (q : Schema). let r : Result (List Column) LoadFaultKind = Ok q.columns in r) same

pub files-preserved : goal.files-preserved
files-preserved c =
    let i = c.files.invariant in
    let files = c.args.files.now in
    let schemas = c.files.schemas.items in
    let schema = c.in_ok-schema.schema in
    let good : is_ok c.push.result ≡ true = search rules in
    let grown : c.push.new.self.items ≡ schemas ++ schema ∷ [] = rw good at c.push.ensures.items in
    let at : slice_get files c.files.file-index ≡ Some c.file-item.result = slice_get_read files (length files) c.files.file-index c.file-item.result (omega arith) c.files-test.true c.file-item.is in
    let here : slice_get files (length schemas) ≡ Some c.file-item.result = ap (slice_get files) i.many ∙ at in
    let named : next_name schemas c.file-item.result.name ≡ Ok schema.name = rw c.deref.ensures.value at c.in_ok-schema.ensures.named in
    let fewer : length schemas ≤ 15 = rw c.deref.ensures.value at c.in_ok-schema.ensures.few in
    rw grown (record {
      many = length-append schemas (schema ∷ []) ∙ ap (λ n. n + 1) i.many;
      few = omega (arith, length-append schemas (schema ∷ []), fewer);
      named = named_more files schemas c.file-item.result schema here named i.named;
      headed = headed_more files schemas c.file-item.result schema here c.in_ok-schema.ensures.headed i.headed;
    })
