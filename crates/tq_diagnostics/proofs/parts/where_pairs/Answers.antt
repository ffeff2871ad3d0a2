use Rattle.std.proofs.Common.{◌∙◌, ap, sym}
use Rattle.std.specs.Option.{option_copied}
use Rattle.tq_diagnostics.specs.Parts.{pairs_of, where_pairs}
use Rattle.tq_diagnostics.proofs.Compared.{turned}
use Rattle.tq_diagnostics.proofs.parts.where_pairs.Goals as goal

pub returns : goal.returns
returns c =
    turned (λ pair. (pair.0.now, pair.1.now)) c.reverse.new.self.items c.push_backwards.new.pairs.items c.new-pairs.result.items (pairs_of c.in-Some.cond.now)
    c.reverse.ensures.items
    c.in_ok-push_backwards.ensures
    c.new-pairs.ensures.items
    ∙ sym (ap (λ cond. where_pairs (option_copied cond)) c.in-Some.is)
