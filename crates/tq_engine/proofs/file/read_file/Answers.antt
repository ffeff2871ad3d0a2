use Rattle.std.proofs.Common.{◌≡◌, ℕ, List, ◌++◌, Option, None, Some, true, rules, length, take, sym, ap, ◌∙◌, arith, length-append, refl}
use Rattle.std.specs.Io.KnownBytes.{Consumes, Keeps}
use Rattle.std.specs.Result.{is_ok}
use Rattle.std.proofs.KnownBytes.{Consumes-kept, Consumes-nil, Consumes-trans}
use Rattle.tq_engine.proofs.file.read_file.Goals as goal

-- a read of no bytes consumes no known bytes
none_taken : (b c : Option (List ℕ)) (n : ℕ) (buffer : List ℕ) → n ≡ 0 → Consumes b c (take n buffer) → Keeps b c
none_taken None c n buffer e p = tt
none_taken (Some x) None n buffer e p = absurd p
none_taken (Some x) (Some y) n buffer e p = sym (p ∙ ap (λ k. take k buffer ++ y) e)

pub reads-init : goal.reads-init
reads-init g c = record {
  taken = rw c.new-bytes.ensures.items (Consumes-nil _);
  room = search rules;
  size = search rules;
  grown = omega arith;
  failed = refl;
  reads = omega arith;
}

pub returns-in-Ok-eq0-clause-whole : goal.returns-in-Ok-eq0-clause-whole
returns-in-Ok-eq0-clause-whole g c =
    Consumes-kept _ _ _ _ c.reads.invariant.taken
    (none_taken _ _ _ _ c.in-Ok-eq0.field-0-test c.in-Ok-eq0.ensures.taken)

pub returns-in-Err-clause-part : goal.returns-in-Err-clause-part
returns-in-Err-clause-part g c = (_, Consumes-kept _ _ _ _ c.reads.invariant.taken c.in-Err.ensures.kept)

pub returns-then-taken-len-clause-part : goal.returns-then-taken-len-clause-part
returns-then-taken-len-clause-part g c = (_, Consumes-trans _ _ _ _ _ c.reads.invariant.taken c.in-Ok-read_some.ensures.taken)

pub returns-then-is_err-clause-part : goal.returns-then-is_err-clause-part
returns-then-is_err-clause-part g c = (_, Consumes-trans _ _ _ _ _ c.reads.invariant.taken c.in-Ok-read_some.ensures.taken)

pub returns-then-taken-len-clause-too_large : goal.returns-then-taken-len-clause-too_large
returns-then-taken-len-clause-too_large g c =
    λ _. (
      _,
      Consumes-trans _ _ _ _ _ c.reads.invariant.taken c.in-Ok-read_some.ensures.taken,
      rw (length-append c.reads.bytes.items (take c.in-Ok-read_some.taken c.read_some.new.buffer))
          (omega (arith, c.in-Ok-read_some.ensures.bound.1, c.reads.bytes.ok.0, c.len.ensures, c.if-taken-len.true)),
    )

pub reads-preserved : goal.reads-preserved
reads-preserved g c =
    let good : is_ok c.extend_from_slice.result ≡ true = search rules in
    let items = rw good at c.extend_from_slice.ensures.items in
    let len = rw good at c.extend_from_slice.ensures.len in
    let count : length (take c.in-Ok-read_some.taken c.read_some.new.buffer) ≡ c.in-Ok-read_some.taken = sym c.in-Ok-read_some.ensures.bound.1 in
    record {
      taken = rw items (Consumes-trans _ _ _ c.reads.bytes.items (take c.in-Ok-read_some.taken c.read_some.new.buffer) c.reads.invariant.taken c.in-Ok-read_some.ensures.taken);
      room = search rules;
      size = omega (arith, len, count, c.len.ensures, c.if-taken-len.false, c.reads.invariant.size);
      grown = omega (arith, len, count, c.in-Ok-read_some.taken-test, c.reads.invariant.grown);
      failed = search rules;
      reads = omega (arith, c.read_some.ensures.reads, c.reads.invariant.reads);
    }
