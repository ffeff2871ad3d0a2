-- Bytes of which only the first are available: what these determine about all bytes, if there are enough of them.
use Rattle.std.proofs.Common.{◌≡◌, ◌≤◌, ◌<◌, ◌+◌, ◌-◌, ◌++◌, ◌∷◌, [], ◌==◌, ℕ, zero, suc, Bool, true, false, List, length, length-append, length-drop, take, drop, refl, ap, sym, subst, ◌∙◌, arith}
use Rattle.std.specs.Prelude.{All, slice_range}
use Rattle.std.proofs.lemmas.Bool.{false≢true}
use Rattle.std.proofs.lemmas.List.{drop-append-le, drop-drop, take-append-le}
use Rattle.std.proofs.lemmas.List.Elements.{All-cons, All-nil}
use Rattle.csv.specs.Reading.{is_bom, strip_bom}
use Rattle.tq_event.specs.Loading.{begins_with_bom, csv_records, has_two_boms}
use Rattle.tq_load.specs.Feeds.{ends_in_feed, last_of, may_be_open}
use Rattle.tq_load.specs.Parts.{EndsRecords, IsCut}
use Rattle.tq_load.proofs.ChainLemmas.{records_apart}
use Rattle.tq_load.proofs.FeedLemmas.{closed_ends, last_behind}
use Rattle.tq_load.proofs.PartLemmas.{ranges, taken}

-- ---- byte order marks

-- six bytes show whether there are two byte order marks
pub marks_apart : (bytes more : List ℕ) → 6 ≤ length bytes → has_two_boms (bytes ++ more) ≡ has_two_boms bytes
unfolding strip_bom
marks_apart [] more long = absurd (omega (arith, long))
marks_apart (a ∷ []) more long = absurd (omega (arith, long))
marks_apart (a ∷ b ∷ []) more long = absurd (omega (arith, long))
marks_apart (a ∷ b ∷ c ∷ []) more long = absurd (omega (arith, long))
marks_apart (a ∷ b ∷ c ∷ d ∷ []) more long = absurd (omega (arith, long))
marks_apart (a ∷ b ∷ c ∷ d ∷ e ∷ []) more long = absurd (omega (arith, long))
marks_apart (a ∷ b ∷ c ∷ d ∷ e ∷ f ∷ bytes) more long = by (is_bom a b c) refl
  where
    by : (mark : Bool) → is_bom a b c ≡ mark → has_two_boms ((a ∷ b ∷ c ∷ d ∷ e ∷ f ∷ bytes) ++ more) ≡ has_two_boms (a ∷ b ∷ c ∷ d ∷ e ∷ f ∷ bytes)
    by true is = rw is refl
    by false is = rw is refl

-- ---- a header on a line of its own

-- if the line holds one record, and its last field does not end with a line feed, the other records are those after the
-- line
pub header_apart : (line more : List ℕ) (header : List (List ℕ)) → ends_in_feed line ≡ true → csv_records line ≡ header ∷ [] → may_be_open header ≡ false → begins_with_bom more ≡ false
    → csv_records (line ++ more) ≡ header ∷ csv_records more
header_apart line more header feed one shut none =
    let ends : EndsRecords line = closed_ends line feed (subst (All (λ fields. may_be_open fields ≡ false)) (sym one) (All-cons (λ fields. may_be_open fields ≡ false) header [] shut (All-nil (λ fields. may_be_open fields ≡ false)))) in
    records_apart line more ends none ∙ ap (λ l. l ++ csv_records more) one

-- ---- a cut

-- so there are bytes
pub feed_some : (bytes : List ℕ) → ends_in_feed bytes ≡ true → 0 < length bytes
unfolding last_of
feed_some [] feed = absurd (false≢true feed)
feed_some (b ∷ bytes) feed = omega arith

pub feed_place : (place : ℕ) (bytes : List ℕ) → ends_in_feed (take place bytes) ≡ true → 0 < place
unfolding last_of
feed_place zero bytes feed = absurd (false≢true feed)
feed_place (suc place) bytes feed = omega arith

-- the last byte of an appended list is that of the whole
feed_behind : (front bytes : List ℕ) → ends_in_feed bytes ≡ true → ends_in_feed (front ++ bytes) ≡ true
unfolding last_of
feed_behind front [] feed = absurd (false≢true feed)
feed_behind front (b ∷ bytes) feed = ap (λ n. n == 10) (last_behind front b bytes 0 0) ∙ feed

-- a place after the start, with the bytes from the start on available
module _ (bytes here more : List ℕ) (start place : ℕ) (split : drop start bytes ≡ here ++ more) (within : place ≤ length here) where
  pub behind : drop (start + place) bytes ≡ drop place here ++ more
  behind = sym (drop-drop place start bytes) ∙ ap (drop place) split ∙ drop-append-le place here more within

  -- the bytes up to there, from the start on
  pub between : slice_range bytes start (start + place) ≡ take place here
  between = ap (λ n. take n (drop start bytes)) (let n : start + place - start ≡ place = omega arith in n) ∙ ap (take place) split ∙ take-append-le place here more within

  upto : take (start + place) bytes ≡ take start bytes ++ take place here
  upto =
      sym (taken bytes (start + place))
      ∙ ranges bytes 0 start (start + place) (omega arith) (omega arith)
      ∙ ap (λ l. l ++ slice_range bytes start (start + place)) (taken bytes start)
      ∙ ap (λ l. take start bytes ++ l) between

  pub cut_at : ends_in_feed (take place here) ≡ true → begins_with_bom (drop place here ++ more) ≡ false → IsCut bytes (start + place)
  cut_at feed no_bom = record {
    feed = ap ends_in_feed upto ∙ feed_behind (take start bytes) (take place here) feed;
    no_bom = ap begins_with_bom behind ∙ no_bom;
  }

  -- and the place is one of all bytes
  pub place_within : start ≤ length bytes → start + place ≤ length bytes
  place_within some = omega (arith, within, some, length-drop start bytes, ap length split, length-append here more)
