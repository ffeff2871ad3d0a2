-- The bytes read and printed so far, and after one more line.
use Rattle.std.proofs.Common.{◌≡◌, ◌≢◌, ◌≤◌, ◌<◌, ◌+◌, ◌*◌, ◌-◌, ℕ, zero, suc, List, [], ◌∷◌, ◌++◌, Bool, true, false, not, Option, length, length-append, arith, refl, sym, ap, subst, ◌∙◌, append_assoc, append-nil}
use Rattle.std.specs.Prelude.{All, Err, MatchOption, None, Ok, OnErr, OnOk, Result, Some}
use Rattle.std.specs.Result.{is_err}
use Rattle.std.proofs.lemmas.Bool.{false≢true}
use Rattle.std.proofs.lemmas.List.Elements.{All-append, All-cons, All-nil}
use Rattle.std.proofs.KnownBytes.{Appends-nil, Appends-trans, Consumes-nil, Consumes-trans}
use Rattle.std.specs.Io.KnownBytes.{Appends, Consumes, IsAtEnd}
use Rattle.tq_base.specs.declared.form.Form.{Form}
use Rattle.tq_base.specs.declared.catalogue.Catalogue.{Catalogue}
use Rattle.tq_table.specs.Sink.{AppendsPrefix}
use Rattle.tq_snapshot.specs.Calls.{WriterState}
use Rattle.tq_session.specs.declared.reply.Reply.{Reply}
use Rattle.tq_session.specs.Input.{InputState, Takes, max_remaining, max_read, reads_after}
use Rattle.tq_session.specs.Lines.{HasNoFeed, Line, SplitsLines, ended_lines, line_bytes, lines_of}
use Rattle.tq_session.specs.Replies.{reply_text}
use Rattle.tq_session.specs.Sessions.{RepliesToAll, RepliesToEnded, RepliesToSome, Streams}
use Rattle.tq_session.specs.LineSteps.{IsBroken, IsEnd, IsReply}
use Rattle.tq_session.specs.Transcripts.{Answers, IsTranscript}
use Rattle.tq_session.proofs.LineLemmas.{SplitsLines-line, SplitsLines-nil, ended_lines-parts, lines_of-open}

-- one more line is replied to
pub transcript_on : (form : Form) (catalogue : Catalogue) (lines : List Line) (first before after : WriterState) (text : List ℕ) (line : Line) (reply : Reply)
    → IsTranscript form catalogue first lines text before → Answers form catalogue before line reply after
    → IsTranscript form catalogue first (lines ++ line ∷ []) (text ++ reply_text form reply) after
unfolding IsTranscript
transcript_on form catalogue [] first before after text line reply (none, same) answers = (
  reply,
  after,
  [],
  subst (λ (w : WriterState). Answers form catalogue w line reply after) same answers,
  (refl, refl),
  ap (λ t. t ++ reply_text form reply) none ∙ sym (append-nil (reply_text form reply)),
)
transcript_on form catalogue (other ∷ lines) first before after text line reply (told, next, more, answered, rest, is) answers = (
  told,
  next,
  more ++ reply_text form reply,
  answered,
  transcript_on form catalogue lines next before after more line reply rest answers,
  ap (λ t. t ++ reply_text form reply) is ∙ append_assoc (reply_text form told) more (reply_text form reply),
)

-- the bytes read up to the unconsumed ones, and the replies to their lines
pub record SoFar (form : Form) (catalogue : Catalogue) (first now : WriterState) (before after : Streams) (unconsumed : List ℕ) : Type 0 where
  pub read : List ℕ
  pub consumed : Consumes before.input after.input read
  pub done : List ℕ
  pub split : read ≡ done ++ unconsumed
  pub lines : List Line
  pub parts : SplitsLines done lines
  pub ended : All (λ (line : Line). line.ended ≡ true) lines
  pub text : List ℕ
  pub is_transcript : IsTranscript form catalogue first lines text now
  pub appended : Appends before.output after.output text

pub so_far_none : (form : Form) (catalogue : Catalogue) (first : WriterState) (before : Streams) (unconsumed : List ℕ) → unconsumed ≡ [] → SoFar form catalogue first first before before unconsumed
unfolding IsTranscript
so_far_none form catalogue first before unconsumed none = record {
  read = [];
  consumed = Consumes-nil before.input;
  done = [];
  split = sym none;
  lines = [];
  parts = SplitsLines-nil;
  ended = All-nil (λ (line : Line). line.ended ≡ true);
  text = [];
  is_transcript = (refl, refl);
  appended = Appends-nil before.output;
}

-- a line with a line feed, and one without
line_is : (line : Line) (ended : Bool) → line.ended ≡ ended → line ≡ record { bytes = line.bytes; ended = ended }
line_is line ended is =
    let with_end : Bool → Line = λ e. record { bytes = line.bytes; ended = e } in
    ap with_end is

line_bytes-ended : (line : Line) → line.ended ≡ true → line_bytes line ≡ line.bytes ++ 10 ∷ []
line_bytes-ended line is = ap line_bytes (line_is line true is)

-- the bytes read after a line was taken
read_on : (read done unconsumed taken line left : List ℕ) → read ≡ done ++ unconsumed → unconsumed ++ taken ≡ line ++ left → read ++ taken ≡ (done ++ line) ++ left
read_on read done unconsumed taken line left split is =
    ap (λ r. r ++ taken) split ∙ append_assoc done unconsumed taken ∙ ap (λ r. done ++ r) is ∙ sym (append_assoc done line left)

-- the lines up to one with a line feed
parts_on : (done : List ℕ) (lines : List Line) (line : Line) → line.ended ≡ true → HasNoFeed line.bytes → SplitsLines done lines → SplitsLines (done ++ line_bytes line) (lines ++ line ∷ [])
parts_on done lines line is none parts =
    subst (λ (l : Line). SplitsLines (done ++ line_bytes l) (lines ++ l ∷ [])) (sym (line_is line true is)) (SplitsLines-line done line.bytes lines parts none)

-- the lines up to the last one, which has no line feed
lines_last : (done : List ℕ) (lines : List Line) (line : Line) → line.ended ≡ false → HasNoFeed line.bytes → 0 < length line.bytes → SplitsLines done lines
    → lines_of (done ++ line_bytes line) ≡ lines ++ line ∷ []
lines_last done lines line is none some parts =
    subst (λ (l : Line). lines_of (done ++ line_bytes l) ≡ lines ++ l ∷ []) (sym (line_is line false is))
    (parts line.bytes ∙ ap (λ l. lines ++ l) (lines_of-open line.bytes none some))

-- a line with a line feed was replied to, and more may follow
pub so_far_on : (form : Form) (catalogue : Catalogue) (first now next : WriterState) (before mid after : Streams) (unconsumed left taken : List ℕ) (line : Line) (reply : Reply)
    → SoFar form catalogue first now before mid unconsumed → Consumes mid.input after.input taken → Takes line unconsumed taken left → line.ended ≡ true
    → Answers form catalogue now line reply next → Appends mid.output after.output (reply_text form reply)
    → SoFar form catalogue first next before after left
so_far_on form catalogue first now next before mid after unconsumed left taken line reply so consumed takes ended answers appended = record {
  read = so.read ++ taken;
  consumed = Consumes-trans before.input mid.input after.input so.read taken so.consumed consumed;
  done = so.done ++ line_bytes line;
  split = read_on so.read so.done unconsumed taken (line_bytes line) left so.split takes.is;
  lines = so.lines ++ line ∷ [];
  parts = parts_on so.done so.lines line ended takes.no_feed so.parts;
  ended = All-append (λ (l : Line). l.ended ≡ true) so.lines (line ∷ []) so.ended (All-cons (λ (l : Line). l.ended ≡ true) line [] ended (All-nil (λ (l : Line). l.ended ≡ true)));
  text = so.text ++ reply_text form reply;
  is_transcript = transcript_on form catalogue so.lines first now next so.text line reply so.is_transcript answers;
  appended = Appends-trans before.output mid.output after.output so.text (reply_text form reply) so.appended appended;
}

-- the last line, which has no line feed, was replied to
pub so_far_last : (form : Form) (catalogue : Catalogue) (first now next : WriterState) (before mid after : Streams) (unconsumed left taken : List ℕ) (line : Line) (reply : Reply)
    → SoFar form catalogue first now before mid unconsumed → Consumes mid.input after.input taken → Takes line unconsumed taken left → line.ended ≡ false → IsAtEnd after.input
    → Answers form catalogue now line reply next → Appends mid.output after.output (reply_text form reply)
    → RepliesToAll form catalogue first before after
so_far_last form catalogue first now next before mid after unconsumed left taken line reply so consumed takes unended at_end answers appended =
    let read : so.read ++ taken ≡ so.done ++ line_bytes line
    = read_on so.read so.done unconsumed taken (line_bytes line) left so.split takes.is ∙ ap (λ l. (so.done ++ line_bytes line) ++ l) (takes.last unended) ∙ append-nil (so.done ++ line_bytes line) in
    record {
      read = so.read ++ taken;
      consumed = Consumes-trans before.input mid.input after.input so.read taken so.consumed consumed;
      at_end = at_end;
      text = so.text ++ reply_text form reply;
      last = next;
      is_transcript = subst (λ l. IsTranscript form catalogue first l (so.text ++ reply_text form reply) next)
          (sym (ap lines_of read ∙ lines_last so.done so.lines line unended takes.no_feed (takes.some unended) so.parts))
          (transcript_on form catalogue so.lines first now next so.text line reply so.is_transcript answers);
      appended = Appends-trans before.output mid.output after.output so.text (reply_text form reply) so.appended appended;
    }

-- the input ended after a line feed, or was empty
pub so_far_end : (form : Form) (catalogue : Catalogue) (first now : WriterState) (before mid : Streams) (input : Option (List ℕ)) (unconsumed taken : List ℕ)
    → SoFar form catalogue first now before mid unconsumed → Consumes mid.input input taken → unconsumed ++ taken ≡ [] → IsAtEnd input
    → RepliesToAll form catalogue first before (record { input = input; output = mid.output })
unfolding lines_of
so_far_end form catalogue first now before mid input unconsumed taken so consumed none at_end =
    let read : so.read ++ taken ≡ so.done
    = ap (λ r. r ++ taken) so.split ∙ append_assoc so.done unconsumed taken ∙ ap (λ l. so.done ++ l) none ∙ append-nil so.done in
    record {
      read = so.read ++ taken;
      consumed = Consumes-trans before.input mid.input input so.read taken so.consumed consumed;
      at_end = at_end;
      text = so.text;
      last = now;
      is_transcript = subst (λ l. IsTranscript form catalogue first l so.text now)
          (sym (ap lines_of read ∙ ap lines_of (sym (append-nil so.done)) ∙ so.parts [] ∙ append-nil so.lines))
          so.is_transcript;
      appended = so.appended;
    }

-- no line was complete in the bytes read
pub so_far_cut_off : (form : Form) (catalogue : Catalogue) (first now : WriterState) (before mid : Streams) (input : Option (List ℕ)) (unconsumed taken : List ℕ)
    → SoFar form catalogue first now before mid unconsumed → Consumes mid.input input taken → HasNoFeed (unconsumed ++ taken)
    → RepliesToEnded form catalogue first before (record { input = input; output = mid.output })
so_far_cut_off form catalogue first now before mid input unconsumed taken so consumed none =
    let read : so.read ++ taken ≡ so.done ++ (unconsumed ++ taken) = ap (λ r. r ++ taken) so.split ∙ append_assoc so.done unconsumed taken in
    record {
      read = so.read ++ taken;
      consumed = Consumes-trans before.input mid.input input so.read taken so.consumed consumed;
      text = so.text;
      last = now;
      is_transcript = subst (λ l. IsTranscript form catalogue first l so.text now)
          (sym (ap (λ r. ended_lines (lines_of r)) read ∙ ended_lines-parts so.done (unconsumed ++ taken) so.lines so.parts so.ended none))
          so.is_transcript;
      appended = so.appended;
    }

-- a prefix of the reply was written
prefix_on : (old mid new : Option (List ℕ)) (text more : List ℕ) → Appends old mid text → AppendsPrefix mid new more → AppendsPrefix old new (text ++ more)
prefix_on old mid new text more appended (sent, unsent, split, rest) =
    (text ++ sent, unsent, ap (λ l. text ++ l) split ∙ sym (append_assoc text sent unsent), Appends-trans old mid new text sent appended rest)

-- the lines of all bytes read begin with those that were replied to
lines_begin : (read done left : List ℕ) (lines : List Line) (line : Line) (ended : Bool) → line.ended ≡ ended → HasNoFeed line.bytes → (line.ended ≡ false → 0 < length line.bytes)
    → (line.ended ≡ false → left ≡ []) → SplitsLines done lines → read ≡ (done ++ line_bytes line) ++ left
    → (more : List Line) × (lines_of read ≡ (lines ++ line ∷ []) ++ more)
lines_begin read done left lines line true is none some last parts read_is =
    (lines_of left, ap lines_of read_is ∙ parts_on done lines line is none parts left)
lines_begin read done left lines line false is none some last parts read_is = (
  [],
  ap lines_of (read_is ∙ ap (λ l. (done ++ line_bytes line) ++ l) (last is) ∙ append-nil (done ++ line_bytes line))
      ∙ lines_last done lines line is none (some is) parts ∙ sym (append-nil (lines ++ line ∷ [])),
)

pub so_far_unwritten : (form : Form) (catalogue : Catalogue) (first now next : WriterState) (before mid after : Streams) (unconsumed left taken : List ℕ) (line : Line) (reply : Reply)
    → SoFar form catalogue first now before mid unconsumed → Consumes mid.input after.input taken → Takes line unconsumed taken left
    → Answers form catalogue now line reply next → AppendsPrefix mid.output after.output (reply_text form reply)
    → RepliesToSome form catalogue first before after
so_far_unwritten form catalogue first now next before mid after unconsumed left taken line reply so consumed takes answers appended =
    let begins = lines_begin (so.read ++ taken) so.done left so.lines line line.ended refl takes.no_feed takes.some takes.last so.parts
    (read_on so.read so.done unconsumed taken (line_bytes line) left so.split takes.is) in
    record {
      read = so.read ++ taken;
      consumed = Consumes-trans before.input mid.input after.input so.read taken so.consumed consumed;
      lines = so.lines ++ line ∷ [];
      more = begins.0;
      are_first = begins.1;
      text = so.text ++ reply_text form reply;
      last = next;
      is_transcript = transcript_on form catalogue so.lines first now next so.text line reply so.is_transcript answers;
      appended = prefix_on before.output mid.output after.output so.text (reply_text form reply) so.appended appended;
    }

-- fewer bytes are left than before
pub fewer_left : (before after : InputState) (line : Line) (taken : List ℕ) → Takes line before.unconsumed taken after.unconsumed → line.ended ≡ true
    → length taken ≤ max_read * (before.left - after.left) → after.left ≤ before.left → max_remaining after < max_remaining before
fewer_left before after line taken takes ended few left =
    let whole : length before.unconsumed + length taken ≡ (length line.bytes + 1) + length after.unconsumed
    = sym (length-append before.unconsumed taken) ∙ ap length (takes.is ∙ ap (λ l. l ++ after.unconsumed) (line_bytes-ended line ended))
    ∙ length-append (line.bytes ++ 10 ∷ []) after.unconsumed ∙ ap (λ n. n + length after.unconsumed) (length-append line.bytes (10 ∷ [])) in
    omega (arith, whole, few, left)

-- ---- the same for a step

pub reply_on : (form : Form) (catalogue : Catalogue) (first now next : WriterState) (before mid after : Streams) (old new : InputState) (reply : Reply) (last : Bool)
    → SoFar form catalogue first now before mid old.unconsumed → IsReply form catalogue now next old new mid.input after.input reply last → last ≡ false
    → Appends mid.output after.output (reply_text form reply) → SoFar form catalogue first next before after new.unconsumed
reply_on form catalogue first now next before mid after old new reply last so r more appended =
    so_far_on form catalogue first now next before mid after old.unconsumed new.unconsumed r.taken r.line reply so r.consumed r.takes (r.ended ∙ ap not more) r.answers appended

pub reply_last : (form : Form) (catalogue : Catalogue) (first now next : WriterState) (before mid after : Streams) (old new : InputState) (reply : Reply) (last : Bool)
    → SoFar form catalogue first now before mid old.unconsumed → IsReply form catalogue now next old new mid.input after.input reply last → last ≡ true
    → Appends mid.output after.output (reply_text form reply) → RepliesToAll form catalogue first before after
reply_last form catalogue first now next before mid after old new reply last so r is appended =
    so_far_last form catalogue first now next before mid after old.unconsumed new.unconsumed r.taken r.line reply so r.consumed r.takes (r.ended ∙ ap not is) (r.at_end is) r.answers appended

pub reply_unwritten : (form : Form) (catalogue : Catalogue) (first now next : WriterState) (before mid after : Streams) (old new : InputState) (reply : Reply) (last : Bool)
    → SoFar form catalogue first now before mid old.unconsumed → IsReply form catalogue now next old new mid.input after.input reply last
    → AppendsPrefix mid.output after.output (reply_text form reply) → RepliesToSome form catalogue first before after
reply_unwritten form catalogue first now next before mid after old new reply last so r appended =
    so_far_unwritten form catalogue first now next before mid after old.unconsumed new.unconsumed r.taken r.line reply so r.consumed r.takes r.answers appended

pub reply_fewer : (form : Form) (catalogue : Catalogue) (now next : WriterState) (old new : InputState) (known rest : Option (List ℕ)) (reply : Reply) (last : Bool)
    → IsReply form catalogue now next old new known rest reply last → last ≡ false → new.left ≤ old.left → max_remaining new < max_remaining old
reply_fewer form catalogue now next old new known rest reply last r more left = fewer_left old new r.line r.taken r.takes (r.ended ∙ ap not more) r.few left

pub end_all : (form : Form) (catalogue : Catalogue) (first now next : WriterState) (before mid : Streams) (old : InputState) (input : Option (List ℕ))
    → SoFar form catalogue first now before mid old.unconsumed → IsEnd now next old mid.input input → RepliesToAll form catalogue first before (record { input = input; output = mid.output })
end_all form catalogue first now next before mid old input so e = so_far_end form catalogue first now before mid input old.unconsumed e.taken so e.consumed e.none e.at_end

pub broken_ended : (form : Form) (catalogue : Catalogue) (first now next : WriterState) (before mid : Streams) (old : InputState) (input : Option (List ℕ))
    → SoFar form catalogue first now before mid old.unconsumed → IsBroken now next old mid.input input → RepliesToEnded form catalogue first before (record { input = input; output = mid.output })
broken_ended form catalogue first now next before mid old input so b = so_far_cut_off form catalogue first now before mid input old.unconsumed b.taken so b.consumed b.none

-- no more reads are counted than were made
pub reads_few : (reads more : ℕ) → reads_after reads more ≤ reads + more
reads_few reads zero = omega arith
reads_few reads (suc more) = omega arith

-- the fact of an option that is `Some`
pub there : {X : Type 0} (N : Type 0) (S : X → Type 0) (o : Option X) (x : X) → o ≡ Some x → MatchOption o N S → S x
there {X} N S o x is holds = subst (λ (r : Option X). MatchOption r N S) is holds

-- the fact of an option that is `None`
pub not_there : {X : Type 0} (N : Type 0) (S : X → Type 0) (o : Option X) → o ≡ None → MatchOption o N S → N
not_there {X} N S o is holds = subst (λ (r : Option X). MatchOption r N S) is holds

-- a consequence of the fact of an `Ok`
pub on_ok : {T E : Type 0} (A B : Type 0) (r : Result T E) → (A → B) → OnOk r A → OnOk r B
on_ok A B (Ok x) follows holds = follows holds
on_ok A B (Err e) follows holds = tt

-- the fact of a call that succeeded
pub when_ok : {T E : Type 0} (A : Type 0) (r : Result T E) → false ≡ is_err r → OnOk r A → A
when_ok A (Ok x) is holds = holds
when_ok A (Err e) is holds = absurd (false≢true is)

pub when_err : {T E : Type 0} (A : Type 0) (r : Result T E) → true ≡ is_err r → OnErr r A → A
when_err A (Ok x) is holds = absurd (false≢true (sym is))
when_err A (Err e) is holds = holds
