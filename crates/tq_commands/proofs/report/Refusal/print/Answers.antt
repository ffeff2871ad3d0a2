use Rattle.std.proofs.KnownBytes.{Appends-trans}
use Rattle.std.proofs.lemmas.Result.{on_ok_weaker}
use Rattle.tq_commands.proofs.report.Refusal.print.Goals as goal

pub returns-in_ok-write_printable-in-CannotRead : goal.returns-in_ok-write_printable-in-CannotRead
returns-in_ok-write_printable-in-CannotRead g c =
    let path = rw c.deref.ensures.value at c.in_ok-write_printable-in-CannotRead.ensures in
    rw c.in-CannotRead.is
    (on_ok_weaker c.write_all-in-CannotRead-2.result
    (λ end. Appends-trans _ _ _ _ _ c.in_ok-write_all-in-CannotRead.ensures.bytes (Appends-trans _ _ _ _ _ path end))
    c.write_all-in-CannotRead-2.ensures.bytes)

pub returns-in_ok-write_printable-in-CannotWrite : goal.returns-in_ok-write_printable-in-CannotWrite
returns-in_ok-write_printable-in-CannotWrite g c =
    let path = rw c.deref-in-CannotWrite.ensures.value at c.in_ok-write_printable-in-CannotWrite.ensures in
    rw c.in-CannotWrite.is
    (on_ok_weaker c.write_all-in-CannotWrite-2.result
    (λ end. Appends-trans _ _ _ _ _ c.in_ok-write_all-in-CannotWrite.ensures.bytes (Appends-trans _ _ _ _ _ path end))
    c.write_all-in-CannotWrite-2.ensures.bytes)

pub returns-in_ok-write_printable-in-Import : goal.returns-in_ok-write_printable-in-Import
returns-in_ok-write_printable-in-Import g c =
    let path = rw c.deref-in-Import.ensures.value at c.in_ok-write_printable-in-Import.ensures in
    rw c.in-Import.is
    (on_ok_weaker c.write_all-in-Import-2.result
    (λ end. Appends-trans _ _ _ _ _ c.in_ok-write_all-in-Import.ensures.bytes (Appends-trans _ _ _ _ _ path end))
    c.write_all-in-Import-2.ensures.bytes)

pub returns-in_ok-write_printable-in-Reference : goal.returns-in_ok-write_printable-in-Reference
returns-in_ok-write_printable-in-Reference g c =
    let path = rw c.deref-in-Reference.ensures.value at c.in_ok-write_printable-in-Reference.ensures in
    rw c.in-Reference.is
    (on_ok_weaker c.write_all-in-Reference-2.result
    (λ end. Appends-trans _ _ _ _ _ c.in_ok-write_all-in-Reference.ensures.bytes (Appends-trans _ _ _ _ _ path end))
    c.write_all-in-Reference-2.ensures.bytes)

pub returns-in_ok-write_printable-in-Split : goal.returns-in_ok-write_printable-in-Split
returns-in_ok-write_printable-in-Split g c =
    let path = rw c.deref-in-Split.ensures.value at c.in_ok-write_printable-in-Split.ensures in
    rw c.in-Split.is
    (on_ok_weaker c.write_all-in-Split-2.result
    (λ end. Appends-trans _ _ _ _ _ c.in_ok-write_all-in-Split.ensures.bytes (Appends-trans _ _ _ _ _ path end))
    c.write_all-in-Split-2.ensures.bytes)

pub returns-in_ok-write_printable-in-Merge : goal.returns-in_ok-write_printable-in-Merge
returns-in_ok-write_printable-in-Merge g c =
    let path = rw c.deref-in-Merge.ensures.value at c.in_ok-write_printable-in-Merge.ensures in
    rw c.in-Merge.is
    (on_ok_weaker c.write_all-in-Merge-2.result
    (λ end. Appends-trans _ _ _ _ _ c.in_ok-write_all-in-Merge.ensures.bytes (Appends-trans _ _ _ _ _ path end))
    c.write_all-in-Merge-2.ensures.bytes)

pub returns-in_ok-write_printable-in-Answer : goal.returns-in_ok-write_printable-in-Answer
returns-in_ok-write_printable-in-Answer g c =
    let path = rw c.deref-in-Answer.ensures.value at c.in_ok-write_printable-in-Answer.ensures in
    rw c.in-Answer.is
    (on_ok_weaker c.write_all-in-Answer-2.result
    (λ end. Appends-trans _ _ _ _ _ c.in_ok-write_all-in-Answer.ensures.bytes (Appends-trans _ _ _ _ _ path end))
    c.write_all-in-Answer-2.ensures.bytes)

pub returns-in-NoPlace : goal.returns-in-NoPlace
returns-in-NoPlace g c = rw c.in-NoPlace.is c.write_all-in-NoPlace.ensures.bytes

pub returns-in-WriteFailed : goal.returns-in-WriteFailed
returns-in-WriteFailed g c = rw c.in-WriteFailed.is c.write_all-in-WriteFailed.ensures.bytes

pub returns-in-OutOfMemory : goal.returns-in-OutOfMemory
returns-in-OutOfMemory g c = rw c.in-OutOfMemory.is c.write_all-in-OutOfMemory.ensures.bytes
