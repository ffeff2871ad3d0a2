use Rattle.std.proofs.Common.{◌++◌, ◌∷◌, ◌∙◌, [], length, take, ap}
use Rattle.std.proofs.Math.Seq.{take-append_seam}
use Rattle.std.proofs.lemmas.List.{map-append}
use Rattle.tq_base.specs.declared.fragment.Fragment.{Fragment}
use Rattle.tq_store.specs.Index.{values_of}
use Rattle.tq_store.proofs.index.Index.begin.Goals as goal

pub returns-in-Ok-clause-kept : goal.returns-in-Ok-clause-kept
returns-in-Ok-clause-kept c =
    ap values_of c.in_ok-push_copy.ensures.pushed
    ∙ map-append (λ (f : Fragment). f.values) c.args.self.now.kept.items (record { values = c.get.result.now; period = c.from_now_on.result } ∷ [])
    ∙ ap (λ v. values_of c.args.self.now.kept.items ++ v ∷ []) c.get.ensures

pub returns-in-Err-clause-same_kept : goal.returns-in-Err-clause-same_kept
returns-in-Err-clause-same_kept c =
    let before = c.args.self.now.kept.items in
    c.truncate.ensures.rows
    ∙ ap (λ n. take n c.push_copy.new.self.items) c.len-before.ensures.len
    ∙ ap (take (length before)) c.in_ok-push_copy.ensures.pushed
    ∙ take-append_seam before (record { values = c.get.result.now; period = c.from_now_on.result } ∷ [])
