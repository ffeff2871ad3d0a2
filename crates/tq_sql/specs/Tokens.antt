-- Tokens: the longest word, number, text or sign at each position, with spaces between them, or the first fault from
-- the left. After the SQL standard's tokens; which tokens there are, and the faults, are this project's own.
use Rattle.std.specs.Prelude.{ℕ, zero, suc, ◌+◌, ◌-◌, ℤ, Bool, ◌&&◌, ◌||◌, not, if◌then◌else◌, ◌==◌, nat_le, nat_lt, List, [], ◌∷◌, length, take, drop, slice_index, Option, Some, None, Result, Ok, Err, codes}
use Rattle.std.specs.Char.{is_ascii_digit}
use Rattle.std.specs.List.{prefix_len}
use Rattle.std.specs.Str.{str_eq_ignore_ascii_case, is_utf8}
use Rattle.std.specs.Str.Lossy.{utf8_valid_len}
use denote.Enum.Bare.{sameb}
use Rattle.tq_base.specs.Names.{is_name_byte}
use Rattle.tq_base.specs.Numbers.{int_of}
use Rattle.tq_sql.specs.contracts.token.TokenKind.{the_type}
use Rattle.tq_sql.specs.declared.token.TokenKind.{TokenKind}
use Rattle.tq_sql.specs.declared.token.TokenKind.TheVariants as k
use Rattle.tq_sql.specs.declared.fault.SqlFault.{SqlFault}
use Rattle.tq_sql.specs.declared.fault.SqlFaultKind.{SqlFaultKind}
use Rattle.tq_sql.specs.declared.fault.SqlFaultKind.TheVariants.{TooLong, BadByte, NumberTooLarge, UnclosedText}

-- a slice of the source: the byte at which it begins, its kind, and its bytes
pub record Token : Type 0 where
  pub at : ℕ
  pub kind : TokenKind
  pub text : List ℕ

unfoldable pub same_kind : TokenKind → TokenKind → Bool
same_kind = sameb the_type

abbrev pub fault : SqlFaultKind → ℕ → SqlFault
fault what place = record { kind = what; at = place }

-- tab, line feed, carriage return and space can be between tokens
abbrev pub is_space : ℕ → Bool
is_space b = b == 9 || b == 10 || b == 13 || b == 32

-- ---- words

-- the keywords
abbrev pub keywords : List (List ℕ × TokenKind)
keywords =
    (codes "validtime", k.Validtime) ∷ (codes "period", k.Period) ∷ (codes "select", k.Select) ∷ (codes "from", k.From)
    ∷ (codes "where", k.Where) ∷ (codes "group", k.Group) ∷ (codes "by", k.By) ∷ (codes "and", k.And) ∷ (codes "or", k.Or)
    ∷ (codes "not", k.Not) ∷ (codes "count", k.Count) ∷ (codes "sum", k.Sum) ∷ (codes "as", k.As) ∷ (codes "except", k.Except)
    ∷ (codes "all", k.All) ∷ []

-- the kind that a table gives a word, in any ASCII case; else that of a name, or of a word too long for a name
abbrev pub keyword_kind : List (List ℕ × TokenKind) → List ℕ → TokenKind
keyword_kind [] word = if nat_le (length word) 64 then k.Name else k.LongWord
keyword_kind (row ∷ rows) word = if str_eq_ignore_ascii_case row.0 word then row.1 else keyword_kind rows word

unfoldable pub word_kind : List ℕ → TokenKind
word_kind word = keyword_kind keywords word

abbrev pub word_at : List ℕ → TokenKind × ℕ
word_at bytes = let size = prefix_len is_name_byte bytes in (word_kind (take size bytes), size)

-- ---- numbers: digits with an optional `-` directly before them, within 64 signed bits

abbrev pub in_range : ℕ → ℕ → Option ℤ → Result (TokenKind × ℕ) SqlFault
in_range at size None = Err (fault NumberTooLarge at)
in_range at size (Some n) = Ok (k.Number, size)

abbrev pub number_at : ℕ → List ℕ → Result (TokenKind × ℕ) SqlFault
number_at at bytes = let size = 1 + prefix_len is_ascii_digit (drop 1 bytes) in in_range at size (int_of (take size bytes))

-- ---- texts in quotes, in which two quotes in a row stand for one

abbrev pub more : ℕ → Option ℕ → Option ℕ
more n None = None
more n (Some m) = Some (n + m)

-- the number of bytes before the closing quote
abbrev mutual
  pub text_length : List ℕ → Option ℕ
  text_length [] = None
  text_length (b ∷ bs) = if b == 39 then behind_quote bs else more 1 (text_length bs)

  pub behind_quote : List ℕ → Option ℕ
  behind_quote [] = Some 0
  behind_quote (b ∷ bs) = if b == 39 then more 2 (text_length bs) else Some 0

-- each doubled quote replaced by one
abbrev mutual
  pub undoubled : List ℕ → List ℕ
  undoubled [] = []
  undoubled (b ∷ bs) = b ∷ (if b == 39 then without_second bs else undoubled bs)

  pub without_second : List ℕ → List ℕ
  without_second [] = []
  without_second (b ∷ bs) = if b == 39 then undoubled bs else b ∷ undoubled bs

-- the bytes inside the quotes
abbrev pub unquoted : List ℕ → List ℕ
unquoted text = undoubled (take (length text - 2) (drop 1 text))

-- the number of bytes before the first that is not UTF-8, if there is one
abbrev pub utf8_fault : List ℕ → Option ℕ
utf8_fault bytes = if is_utf8 bytes then None else Some (utf8_valid_len bytes)

abbrev pub checked : ℕ → ℕ → Option ℕ → Result (TokenKind × ℕ) SqlFault
checked at size None = Ok (k.Text, size + 2)
checked at size (Some valid) = Err (fault BadByte (at + 1 + valid))

abbrev pub closed : ℕ → List ℕ → Option ℕ → Result (TokenKind × ℕ) SqlFault
closed at inside None = Err (fault UnclosedText at)
closed at inside (Some size) = checked at size (utf8_fault (take size inside))

abbrev pub text_at : ℕ → List ℕ → Result (TokenKind × ℕ) SqlFault
text_at at bytes = closed at (drop 1 bytes) (text_length (drop 1 bytes))

-- ---- signs: the longest that the two bytes begin

abbrev pub mark : ℕ → ℕ → Option (TokenKind × ℕ)
mark b c =
    if b == 60 then (if c == 62 then Some (k.Ne, 2) else (if c == 61 then Some (k.Le, 2) else Some (k.Lt, 1)))
    else (if b == 62 then (if c == 61 then Some (k.Ge, 2) else Some (k.Gt, 1))
    else (if b == 61 then Some (k.Eq, 1)
    else (if b == 40 then Some (k.Open, 1)
    else (if b == 41 then Some (k.Close, 1)
    else (if b == 44 then Some (k.Comma, 1)
    else (if b == 46 then Some (k.Dot, 1)
    else (if b == 42 then Some (k.Star, 1)
    else (if b == 59 then Some (k.Semicolon, 1) else None))))))))

abbrev pub mark_at : ℕ → Option (TokenKind × ℕ) → Result (TokenKind × ℕ) SqlFault
mark_at at None = Err (fault BadByte at)
mark_at at (Some m) = Ok m

-- ---- the first token of the bytes, which begin at this offset: its kind and its length

unfoldable pub token_at : ℕ → List ℕ → Result (TokenKind × ℕ) SqlFault
token_at at bytes =
    let b = slice_index bytes 0 in
    let c = slice_index bytes 1 in
    if is_name_byte b && not (is_ascii_digit b) then Ok (word_at bytes)
    else (if is_ascii_digit b || (b == 45 && is_ascii_digit c) then number_at at bytes
    else (if b == 39 then text_at at bytes
    else mark_at at (mark b c)))

-- ---- all tokens, or the first fault from the left

abbrev pub with_token : Token → Result (List Token) SqlFault → Result (List Token) SqlFault
with_token t (Ok ts) = Ok (t ∷ ts)
with_token t (Err e) = Err e

-- the first token of the bytes, and then those of the rest
abbrev pub then_rest : ℕ → List ℕ → (ℕ → Result (List Token) SqlFault) → Result (TokenKind × ℕ) SqlFault → Result (List Token) SqlFault
then_rest place bytes rest (Err e) = Err e
then_rest place bytes rest (Ok t) = with_token (record { at = place; kind = t.0; text = take t.1 bytes }) (rest (t.1 - 1))

-- The first number counts the bytes that still belong to the previous token; the second is the offset.
abbrev pub tokens_from : ℕ → ℕ → List ℕ → Result (List Token) SqlFault
tokens_from skip at [] = Ok []
tokens_from (suc skip) at (b ∷ bs) = tokens_from skip (suc at) bs
tokens_from zero at (b ∷ bs) =
    if is_space b then tokens_from 0 (suc at) bs
    else then_rest at (b ∷ bs) (λ left. tokens_from left (suc at) bs) (token_at at (b ∷ bs))

-- the tokens of at most 65,536 bytes
abbrev pub tokens_of : List ℕ → Result (List Token) SqlFault
tokens_of bytes = if nat_lt 65536 (length bytes) then Err (fault TooLong 65536) else tokens_from 0 0 bytes
