-- The steps of taking a line.
use Rattle.std.proofs.Common.{◌≡◌, ◌≢◌, ◌<◌, ◌≤◌, ◌+◌, ◌*◌, not, length-append, if◌then◌else◌, ℕ, zero, suc, List, [], ◌∷◌, ◌++◌, Option, Some, length, take, drop, get_or, arith, refl, sym, ap, ◌∙◌, subst, append_assoc, append-nil, add-one}
use Rattle.std.proofs.lemmas.Bool.{eq-eqb, eqb-true, false≢true, ne_eqb}
use Rattle.std.proofs.lemmas.List.{get_or-take, length-take}
use Rattle.std.proofs.lemmas.List.Elements.{All-from_get_or, All-append, All-take}
use Rattle.std.proofs.KnownBytes.{Consumes-trans}
use Rattle.std.proofs.Math.Seq.{split_at, take-append_seam}
use Rattle.std.specs.Io.KnownBytes.{Consumes, IsAtEnd}
use Rattle.memchr.specs.Find.{IsFirstByte, is_byte}
use Rattle.tq_table.specs.Sink.{one_more}
use Rattle.tq_session.specs.Lines.{HasNoFeed, ended_line, open_line, without_return}
use Rattle.tq_session.specs.LineBuffers.{LineBufferState, IsEnded, HasCollected, IsLast, TakesAll, TakesLine}
use Rattle.tq_session.specs.Input.{InputState, IsFound, Takes, max_read, reads_after}
use Rattle.tq_session.specs.declared.input.Found.{Found}
use Rattle.tq_session.specs.declared.input.Found.TheVariants as found

-- bytes with a carriage return at the end
pub without_return-dropped : (n : ℕ) (bytes : List ℕ) (d : ℕ) → length bytes ≡ suc n → get_or bytes n d ≡ 13 → take n bytes ≡ without_return bytes
unfolding without_return
without_return-dropped n [] d len is = absurd (omega (arith, len))
without_return-dropped zero (byte ∷ []) d len is = sym (ap (λ b. without_return (b ∷ [])) is)
without_return-dropped zero (byte ∷ next ∷ bytes) d len is = absurd (omega (arith, len))
without_return-dropped (suc n) (byte ∷ []) d len is = absurd (omega (arith, len))
without_return-dropped (suc n) (byte ∷ next ∷ bytes) d len is = ap (λ bs. byte ∷ bs) (without_return-dropped n (next ∷ bytes) d (omega (arith, len)) is)

-- bytes with another byte at the end
pub without_return-kept : (n : ℕ) (bytes : List ℕ) (d : ℕ) → length bytes ≡ suc n → get_or bytes n d ≢ 13 → bytes ≡ without_return bytes
unfolding without_return
without_return-kept n [] d len other = absurd (omega (arith, len))
without_return-kept zero (byte ∷ []) d len other = sym (ap (λ is. if is then [] else byte ∷ []) (ne_eqb byte 13 other))
without_return-kept zero (byte ∷ next ∷ bytes) d len other = absurd (omega (arith, len))
without_return-kept (suc n) (byte ∷ []) d len other = absurd (omega (arith, len))
without_return-kept (suc n) (byte ∷ next ∷ bytes) d len other = ap (λ bs. byte ∷ bs) (without_return-kept n (next ∷ bytes) d (omega (arith, len)) other)

-- no bytes have no carriage return
pub without_return-none : (bytes : List ℕ) → length bytes ≡ 0 → bytes ≡ without_return bytes
unfolding without_return
without_return-none [] len = refl
without_return-none (byte ∷ bytes) len = absurd (omega (arith, len))

-- the bytes before the first line feed have none
pub before_feed : (bytes : List ℕ) (feed : ℕ) → IsFirstByte (is_byte 10) bytes (Some feed) → HasNoFeed (take feed bytes)
before_feed bytes feed is =
    All-from_get_or (λ b. b ≢ 10) (take feed bytes) 0
    (λ i less same. is.0.before i (omega arith) (omega (arith, less, length-take feed bytes))
    (eq-eqb (get_or bytes i 0) 10 (sym (get_or-take feed bytes i 0 (omega (arith, less, length-take feed bytes))) ∙ same)))

-- the bytes, split at the first line feed
pub at_feed : (bytes : List ℕ) (feed : ℕ) → IsFirstByte (is_byte 10) bytes (Some feed) → bytes ≡ take feed bytes ++ 10 ∷ drop (feed + 1) bytes
at_feed bytes feed is =
    split_at bytes feed 0 is.0.high
    ∙ ap (λ b. take feed bytes ++ b ∷ drop (suc feed) bytes) (eqb-true (get_or bytes feed 0) 10 is.1)
    ∙ ap (λ n. take feed bytes ++ 10 ∷ drop n bytes) (sym (add-one feed))

-- one more read
pub reads_after-more : (reads n more : ℕ) → more ≡ n + 1 → reads_after reads more ≡ one_more (reads_after reads n)
reads_after-more reads n zero is = absurd (omega (arith, is))
reads_after-more reads zero (suc more) is = omega (arith, is)
reads_after-more reads (suc n) (suc more) is = omega (arith, is)

-- some reads, followed by more
pub reads_after-add : (reads first later all : ℕ) → all ≡ first + later → reads_after (reads_after reads first) later ≡ reads_after reads all
reads_after-add reads zero zero zero is = refl
reads_after-add reads zero zero (suc all) is = absurd (omega (arith, is))
reads_after-add reads zero (suc later) zero is = absurd (omega (arith, is))
reads_after-add reads zero (suc later) (suc all) is = omega (arith, is)
reads_after-add reads (suc first) zero zero is = absurd (omega (arith, is))
reads_after-add reads (suc first) zero (suc all) is = omega (arith, is)
reads_after-add reads (suc first) (suc later) zero is = absurd (omega (arith, is))
reads_after-add reads (suc first) (suc later) (suc all) is = omega (arith, is)

-- a line is being taken, and its line feed is not found yet
pub record IsMidway (before unconsumed : List ℕ) (line : LineBufferState) (old new : Option (List ℕ)) (reads : ℕ) : Type 0 where
  pub bytes : List ℕ
  pub taken : List ℕ
  pub no_feed : HasNoFeed bytes
  pub gathered : HasCollected line bytes
  pub consumes : Consumes old new taken
  pub split : before ++ taken ≡ bytes ++ unconsumed
  pub most : length taken ≤ max_read * reads

-- all bytes read are moved into the line
pub midway_moved : (before unconsumed after : List ℕ) (line more : LineBufferState) (old new : Option (List ℕ)) (reads : ℕ) → IsMidway before unconsumed line old new reads → TakesAll unconsumed after line more
    → IsMidway before [] more old new reads
midway_moved before unconsumed after line more old new reads m moves = record {
  bytes = m.bytes ++ unconsumed;
  taken = m.taken;
  no_feed = All-append (λ b. b ≢ 10) m.bytes unconsumed m.no_feed moves.no_feed;
  gathered = moves.gathers m.bytes m.gathered;
  consumes = m.consumes;
  split = m.split ∙ sym (append-nil (m.bytes ++ unconsumed));
  most = m.most;
}

-- a read returned more bytes
pub midway_read : (before more : List ℕ) (line : LineBufferState) (old mid new : Option (List ℕ)) (reads next : ℕ) → IsMidway before [] line old mid reads → Consumes mid new more
    → length more ≤ max_read → next ≡ reads + 1 → IsMidway before more line old new next
midway_read before more line old mid new reads next m read few is = record {
  bytes = m.bytes;
  taken = m.taken ++ more;
  no_feed = m.no_feed;
  gathered = m.gathered;
  consumes = Consumes-trans old mid new m.taken more m.consumes read;
  split = sym (append_assoc before m.taken more) ∙ ap (λ bs. bs ++ more) (m.split ∙ append-nil m.bytes);
  most = omega (arith, m.most, few, is, length-append m.taken more);
}

-- if the bytes so far have no line feed, neither do those before them
pub midway_no_feed : (before unconsumed after : List ℕ) (line more : LineBufferState) (old new : Option (List ℕ)) (reads : ℕ) → IsMidway before unconsumed line old new reads → TakesAll unconsumed after line more
    → HasNoFeed before
midway_no_feed before unconsumed after line more old new reads m moves =
    let all : HasNoFeed (before ++ m.taken) = subst HasNoFeed (sym m.split) (All-append (λ b. b ≢ 10) m.bytes unconsumed m.no_feed moves.no_feed) in
    subst HasNoFeed (take-append_seam before m.taken) (All-take (λ b. b ≢ 10) (length before) (before ++ m.taken) all)

-- the line feed is found
midway_ended : (before unconsumed after : List ℕ) (line more : LineBufferState) (old new : Option (List ℕ)) (reads : ℕ) (m : IsMidway before unconsumed line old new reads) (moves : TakesLine unconsumed after line more)
    → Takes (ended_line (m.bytes ++ moves.bytes)) before m.taken after
midway_ended before unconsumed after line more old new reads m moves = record {
  no_feed = All-append (λ b. b ≢ 10) m.bytes moves.bytes m.no_feed moves.no_feed;
  is = m.split ∙ ap (λ bs. m.bytes ++ bs) moves.split ∙ sym (append_assoc m.bytes moves.bytes (10 ∷ after))
      ∙ sym (append_assoc (m.bytes ++ moves.bytes) (10 ∷ []) after);
  last = λ e. absurd (false≢true (sym e));
  some = λ e. absurd (false≢true (sym e));
}

-- what is found at a line feed
pub midway_found : (before : InputState) (left : ℕ) (unconsumed after : List ℕ) (line more ended : LineBufferState) (old new : Option (List ℕ)) (reads : ℕ) (found : Found)
    → IsMidway before.unconsumed unconsumed line old new reads → TakesLine unconsumed after line more → ((bytes : List ℕ) → HasCollected more bytes → IsEnded bytes ended found)
    → (taken : List ℕ) × Consumes old new taken × (length taken ≤ max_read * reads)
    × IsFound before (record { unconsumed = after; line = ended.bytes; left = left }) taken new found
midway_found before left unconsumed after line more ended old new reads (found.Line last) m moves is =
    let bytes = m.bytes ++ moves.bytes in
    let end = is bytes (moves.gathers m.bytes m.gathered) in (
      m.taken,
      m.consumes,
      m.most,
      (
        ended_line bytes,
        midway_ended before.unconsumed unconsumed after line more old new reads m moves,
        end.1,
        end.2,
        sym (ap not end.0),
        λ e. absurd (false≢true (sym end.0 ∙ e)),
      ),
    )
midway_found before left unconsumed after line more ended old new reads (found.TooLong last) m moves is =
    let bytes = m.bytes ++ moves.bytes in
    let end = is bytes (moves.gathers m.bytes m.gathered) in (
      m.taken,
      m.consumes,
      m.most,
      (
        ended_line bytes,
        midway_ended before.unconsumed unconsumed after line more old new reads m moves,
        end.1,
        sym (ap not end.0),
        λ e. absurd (false≢true (sym end.0 ∙ e)),
      ),
    )
midway_found before left unconsumed after line more ended old new reads found.End m moves is =
    absurd (is (m.bytes ++ moves.bytes) (moves.gathers m.bytes m.gathered))

-- the input ends after some bytes
midway_last : (before unconsumed : List ℕ) (line : LineBufferState) (old new : Option (List ℕ)) (reads : ℕ) (m : IsMidway before unconsumed line old new reads) → unconsumed ≡ [] → 0 < length m.bytes
    → Takes (open_line m.bytes) before m.taken unconsumed
midway_last before unconsumed line old new reads m none some = record {
  no_feed = m.no_feed;
  is = m.split;
  last = λ e. none;
  some = λ e. some;
}

-- what is found at the end of the input
pub midway_end : (before : InputState) (left : ℕ) (unconsumed : List ℕ) (line : LineBufferState) (old new : Option (List ℕ)) (reads : ℕ) (found : Found)
    → IsMidway before.unconsumed unconsumed line old new reads → ((bytes : List ℕ) → HasCollected line bytes → IsLast bytes line found) → unconsumed ≡ [] → IsAtEnd new
    → (taken : List ℕ) × Consumes old new taken × (length taken ≤ max_read * reads)
    × IsFound before (record { unconsumed = unconsumed; line = line.bytes; left = left }) taken new found
midway_end before left unconsumed line old new reads (found.Line last) m is_last none end =
    let is = is_last m.bytes m.gathered in
    (m.taken, m.consumes, m.most, (open_line m.bytes, midway_last before.unconsumed unconsumed line old new reads m none is.1, is.2, is.3, sym (ap not is.0), λ e. end))
midway_end before left unconsumed line old new reads (found.TooLong last) m is_last none end =
    let is = is_last m.bytes m.gathered in
    (m.taken, m.consumes, m.most, (open_line m.bytes, midway_last before.unconsumed unconsumed line old new reads m none (omega (arith, is.1)), is.1, sym (ap not is.0), λ e. end))
midway_end before left unconsumed line old new reads found.End m is_last none end =
    let is = is_last m.bytes m.gathered in
    (m.taken, m.consumes, m.most, (m.split ∙ ap (λ l. m.bytes ++ l) none ∙ append-nil m.bytes ∙ is, none, end))
