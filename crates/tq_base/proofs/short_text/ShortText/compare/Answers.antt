use Rattle.tq_base.specs.Contents.{Text}
use Rattle.tq_base.specs.NormalizedKeys.{prefixes_order}
use Rattle.tq_base.proofs.short_text.ShortText.compare.Goals as goal

pub returns : goal.returns
returns c = rw (c.cmp.ensures, c.prefix.ensures.prefix, c.prefix-2.ensures.prefix) (prefixes_order (Text c.args.self.now) (Text c.args.other.now) c.prefix.ensures.bytes c.prefix-2.ensures.bytes c.prefix.ensures.exact c.prefix-2.ensures.exact)
