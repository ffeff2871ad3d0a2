use Rattle.std.proofs.Common.{◌≡◌, ◌++◌, take}
use Rattle.tq_draw.specs.Xml.{xml_text}
use Rattle.tq_draw.proofs.xml.push_xml.Given as goal

abbrev pub invariant-bytes : goal.invariant-bytes
invariant-bytes l = l.text.items ≡ l.initial.text.items ++ xml_text (take l.byte-index l.bytes)
