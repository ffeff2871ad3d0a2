-- Hints for what other SQL dialects have and this one has not. This project's own.
use Rattle.std.specs.Prelude.{ℕ, ◌==◌, Bool, true, false, ◌&&◌, if◌then◌else◌, nat_lt, List, [], ◌∷◌, ◌++◌, codes, length}
use Rattle.std.specs.Char.{is_ascii_digit, is_ascii_whitespace}
use Rattle.std.specs.List.{fold, starts_with}
use Rattle.std.specs.Str.{str_eq_ignore_ascii_case}
use Rattle.tq_base.specs.Names.{is_name_byte}
use Rattle.tq_diagnostics.specs.NamePlaces.{first_word}
use Rattle.tq_diagnostics.specs.Clauses.{clause_of}
use Rattle.tq_diagnostics.specs.declared.clauses.Clause.{Clause}
use Rattle.tq_diagnostics.specs.declared.clauses.Clause.TheVariants.{From, Group, Select, Start, Where}

-- A row: the token before a place, what is at the place, and the hint. An empty token before stands for any, and so does
-- nothing at the place.
abbrev pub Row : Type 0
Row = List ℕ × (List ℕ × List ℕ)

-- rows for any clause that come before those for words
abbrev pub context : List Row
context =
    (codes "validtime", (codes "as", codes "AS OF is not supported: ask for one instant by PERIOD '[20 - 21)', or for earlier events in `tq session`"))
    ∷ (codes "period", (codes "", codes "write the window in quotes, as in PERIOD '[10 - 20)'"))
    ∷ (codes "validtime", (codes "'", codes "write PERIOD and a window in quotes, as in PERIOD '[10 - 20)'"))
    ∷ (codes "left", (codes "join", codes "outer joins are not supported: write FROM a, b WHERE a.k = b.k for an inner join, and EXCEPT ALL for the rows without a partner"))
    ∷ (codes "right", (codes "join", codes "outer joins are not supported: write FROM a, b WHERE a.k = b.k for an inner join, and EXCEPT ALL for the rows without a partner"))
    ∷ (codes "full", (codes "join", codes "outer joins are not supported: write FROM a, b WHERE a.k = b.k for an inner join, and EXCEPT ALL for the rows without a partner"))
    ∷ (codes "outer", (codes "join", codes "outer joins are not supported: write FROM a, b WHERE a.k = b.k for an inner join, and EXCEPT ALL for the rows without a partner"))
    ∷ (codes "except", (codes "", codes "EXCEPT without ALL is not supported: EXCEPT ALL removes a row for each row of the second query"))
    ∷ (codes "as", (codes "", codes "write a name after AS that is not a reserved word"))
    ∷ (codes ";", (codes "", codes "a statement ends at `;`: ask one statement at a time"))
    ∷ []

-- words of other dialects, and what to write instead
abbrev pub words : List (List ℕ × List ℕ)
words =
    (codes "order", codes "ORDER BY is not supported: rows are sorted by the columns after SELECT, from left to right, then by time; `tq ask --order time` sorts by time first")
    ∷ (codes "having", codes "HAVING is not supported: query the answer as a table, with WHERE instead of HAVING")
    ∷ (codes "distinct", codes "DISTINCT is not supported: use GROUP BY with the same columns")
    ∷ (codes "join", codes "JOIN is not supported: write FROM a, b WHERE a.k = b.k")
    ∷ (codes "inner", codes "JOIN is not supported: write FROM a, b WHERE a.k = b.k")
    ∷ (codes "natural", codes "JOIN is not supported: write FROM a, b WHERE a.k = b.k")
    ∷ (codes "left", codes "outer joins are not supported: write FROM a, b WHERE a.k = b.k for an inner join, and EXCEPT ALL for the rows without a partner")
    ∷ (codes "right", codes "outer joins are not supported: write FROM a, b WHERE a.k = b.k for an inner join, and EXCEPT ALL for the rows without a partner")
    ∷ (codes "full", codes "outer joins are not supported: write FROM a, b WHERE a.k = b.k for an inner join, and EXCEPT ALL for the rows without a partner")
    ∷ (codes "outer", codes "outer joins are not supported: write FROM a, b WHERE a.k = b.k for an inner join, and EXCEPT ALL for the rows without a partner")
    ∷ (codes "cross", codes "CROSS JOIN is not supported: write FROM a, b")
    ∷ (codes "on", codes "ON is not supported: write the condition after WHERE")
    ∷ (codes "using", codes "USING is not supported: write the condition after WHERE")
    ∷ (codes "limit", codes "LIMIT is not supported: save the answer in a file, and take its first lines")
    ∷ (codes "offset", codes "OFFSET is not supported: save the answer in a file, and take its first lines")
    ∷ (codes "fetch", codes "FETCH is not supported: save the answer in a file, and take its first lines")
    ∷ (codes "top", codes "TOP is not supported: save the answer in a file, and take its first lines")
    ∷ (codes "union", codes "UNION is not supported: write the rows of both tables into one file")
    ∷ (codes "intersect", codes "INTERSECT is not supported: write FROM a, b WHERE a.k = b.k GROUP BY a.k")
    ∷ (codes "minus", codes "MINUS is not supported: EXCEPT ALL removes a row for each row of the second query")
    ∷ (codes "in", codes "IN is not supported: write `a = 1 OR a = 2`")
    ∷ (codes "between", codes "BETWEEN is not supported: write `a >= 1 AND a <= 9`")
    ∷ (codes "is", codes "NULL is not supported")
    ∷ (codes "like", codes "LIKE is not supported: compare whole texts, by `=` `<>` `<` `<=` `>` `>=`")
    ∷ (codes "exists", codes "subqueries are not supported: save the answer of the inner query as a table, and query that")
    ∷ (codes "case", codes "CASE is not supported")
    ∷ (codes "over", codes "window functions are not supported")
    ∷ (codes "max", codes "MAX is not supported: EXCEPT ALL can remove the values that are less than another")
    ∷ (codes "min", codes "MIN is not supported: EXCEPT ALL can remove the values that are greater than another")
    ∷ (codes "avg", codes "AVG is not supported: select SUM(column) and COUNT(*), and divide")
    ∷ (codes "of", codes "AS OF is not supported: ask for one instant by PERIOD '[20 - 21)', or for earlier events in `tq session`")
    ∷ (codes "for", codes "FOR SYSTEM_TIME is not supported: ask for one instant by PERIOD '[20 - 21)', or for earlier events in `tq session`")
    ∷ (codes "with", codes "WITH is not supported: query the answer of the inner query as a table")
    ∷ (codes "insert", codes "a statement only asks: `tq session` starts and ends rows")
    ∷ (codes "update", codes "a statement only asks: `tq session` starts and ends rows")
    ∷ (codes "delete", codes "a statement only asks: `tq session` starts and ends rows")
    ∷ (codes "nonsequenced", codes "NONSEQUENCED is not supported: a statement begins with VALIDTIME")
    ∷ (codes "explain", codes "EXPLAIN is not supported: write `tq ask --explain`")
    ∷ []

-- rows for what is before SELECT
abbrev pub before_select : List Row
before_select =
    (codes "", (codes "select", codes "write VALIDTIME before SELECT"))
    ∷ []

-- rows for what is selected
abbrev pub in_select : List Row
in_select =
    (codes "select", (codes "*", codes "SELECT * is not supported: name the columns"))
    ∷ (codes ",", (codes "*", codes "SELECT * is not supported: name the columns"))
    ∷ (codes ".", (codes "*", codes "SELECT * is not supported: name the columns"))
    ∷ (codes "select", (codes "from", codes "a column is missing here; `from` and `to` are not selected, since each answer has them"))
    ∷ (codes ",", (codes "from", codes "a column is missing here; `from` and `to` are not selected, since each answer has them"))
    ∷ (codes "select", (codes "0", codes "only columns, COUNT(*) and SUM(column) can be selected"))
    ∷ (codes ",", (codes "0", codes "only columns, COUNT(*) and SUM(column) can be selected"))
    ∷ (codes "select", (codes "'", codes "only columns, COUNT(*) and SUM(column) can be selected"))
    ∷ (codes ",", (codes "'", codes "only columns, COUNT(*) and SUM(column) can be selected"))
    ∷ (codes "sum", (codes "from", codes "`sum` is a reserved word: write SUM(column)"))
    ∷ (codes "count", (codes "from", codes "`count` is a reserved word: write COUNT(*)"))
    ∷ (codes "(", (codes "*", codes "SUM needs a column: COUNT(*) counts rows"))
    ∷ (codes "(", (codes "", codes "write COUNT(*) or SUM(column): no value is NULL, so COUNT(*) counts the values of each column"))
    ∷ (codes "", (codes "(", codes "COUNT(*) and SUM(column) are the only functions"))
    ∷ []

-- rows for sources
abbrev pub in_from : List Row
in_from =
    (codes "from", (codes "(", codes "subqueries are not supported: save the answer of the inner query as a table, and query that"))
    ∷ (codes ",", (codes "(", codes "subqueries are not supported: save the answer of the inner query as a table, and query that"))
    ∷ (codes "from", (codes ",", codes ""))
    ∷ (codes ",", (codes ",", codes ""))
    ∷ (codes "", (codes ",", codes "a query has at most four sources"))
    ∷ []

-- rows for conditions
abbrev pub in_where : List Row
in_where =
    (codes "where", (codes "from", codes "`from` and `to` cannot be compared: use a window, as in PERIOD '[10 - 20)'"))
    ∷ (codes "and", (codes "from", codes "`from` and `to` cannot be compared: use a window, as in PERIOD '[10 - 20)'"))
    ∷ (codes "or", (codes "from", codes "`from` and `to` cannot be compared: use a window, as in PERIOD '[10 - 20)'"))
    ∷ (codes "not", (codes "from", codes "`from` and `to` cannot be compared: use a window, as in PERIOD '[10 - 20)'"))
    ∷ (codes "(", (codes "from", codes "`from` and `to` cannot be compared: use a window, as in PERIOD '[10 - 20)'"))
    ∷ (codes ")", (codes "(", codes "write AND or OR between conditions"))
    ∷ (codes "", (codes ",", codes "write AND or OR between conditions"))
    ∷ (codes "", (codes "(", codes "an operand is a column, a number or a text: functions and subqueries are not supported"))
    ∷ []

-- rows for columns after GROUP BY
abbrev pub in_group : List Row
in_group =
    (codes "by", (codes "0", codes "name the columns after GROUP BY"))
    ∷ (codes ",", (codes "0", codes "name the columns after GROUP BY"))
    ∷ []

-- rows for signs of other dialects
abbrev pub signs : List Row
signs =
    (codes "period", (codes "[", codes "write the window in quotes, as in PERIOD '[10 - 20)'"))
    ∷ (codes "validtime", (codes "[", codes "write PERIOD and a window in quotes, as in PERIOD '[10 - 20)'"))
    ∷ (codes "=", (codes "=", codes "write `=` instead of `==`"))
    ∷ (codes "=", (codes "<", codes "write `<=` instead of `=<`"))
    ∷ (codes "=", (codes ">", codes "write `>=` instead of `=>`"))
    ∷ (codes "0", (codes ".", codes "decimals are not supported: `tq import` makes whole numbers of them, as 150 of 1.50"))
    ∷ (codes "", (codes "!=", codes "write `<>` instead of `!=`"))
    ∷ (codes "", (codes "\"", codes "write texts in single quotes, and names without quotes"))
    ∷ (codes "", (codes "`", codes "write names without quotes"))
    ∷ (codes "", (codes "[", codes "write names without brackets"))
    ∷ (codes "", (codes "--", codes "comments are not supported"))
    ∷ (codes "", (codes "/*", codes "comments are not supported"))
    ∷ (codes "", (codes "-", codes "arithmetic is not supported; write `-` directly before a number"))
    ∷ (codes "", (codes "+", codes "arithmetic is not supported"))
    ∷ (codes "", (codes "*", codes "arithmetic is not supported"))
    ∷ (codes "", (codes "/", codes "arithmetic is not supported"))
    ∷ (codes "", (codes "%", codes "arithmetic is not supported"))
    ∷ (codes "", (codes "||", codes "texts cannot be concatenated"))
    ∷ []

-- the first text if it is not empty, else the second
abbrev pub or_else : List ℕ → List ℕ → List ℕ
or_else first second = if nat_lt 0 (length first) then first else second

-- the word, or `0` for a number
abbrev pub class_of : List ℕ → List ℕ
class_of [] = []
class_of (byte ∷ bytes) = if is_ascii_digit byte then codes "0" else byte ∷ bytes

-- whether the token before a place fits a row
abbrev pub fits_before : List ℕ → List ℕ → Bool
fits_before wanted before = if length wanted == 0 then true else str_eq_ignore_ascii_case wanted (class_of before)

-- whether the bytes from a place on fit a row: they begin with its sign, or their first word is its word
abbrev pub fits_at : List ℕ → List ℕ → Bool
fits_at [] rest = true
fits_at (byte ∷ wanted) rest =
    if is_name_byte byte then str_eq_ignore_ascii_case (byte ∷ wanted) (class_of (first_word rest))
    else starts_with (λ a b. a == b) rest (byte ∷ wanted)

-- the hint of the first row that fits, or nothing
abbrev pub of_rows : List Row → List ℕ → List ℕ → List ℕ
of_rows [] before rest = []
of_rows (row ∷ rows) before rest = if fits_before row.0 before && fits_at row.1.0 rest then row.1.1 else of_rows rows before rest

-- the hint in the first row that has the word in any ASCII case
abbrev pub of_word : List (List ℕ × List ℕ) → List ℕ → List ℕ
of_word [] word = []
of_word (row ∷ rows) word = if str_eq_ignore_ascii_case row.0 word then row.1 else of_word rows word

unfoldable pub context_hint : List ℕ → List ℕ → List ℕ
context_hint before rest = of_rows context before rest

unfoldable pub word_hint : List ℕ → List ℕ
word_hint word = of_word words word

unfoldable pub before_select_hint : List ℕ → List ℕ → List ℕ
before_select_hint before rest = of_rows before_select before rest

unfoldable pub in_select_hint : List ℕ → List ℕ → List ℕ
in_select_hint before rest = of_rows in_select before rest

unfoldable pub in_from_hint : List ℕ → List ℕ → List ℕ
in_from_hint before rest = of_rows in_from before rest

unfoldable pub in_where_hint : List ℕ → List ℕ → List ℕ
in_where_hint before rest = of_rows in_where before rest

unfoldable pub in_group_hint : List ℕ → List ℕ → List ℕ
in_group_hint before rest = of_rows in_group before rest

-- the hint of the table for the clause
abbrev pub clause_hint : Clause → List ℕ → List ℕ → List ℕ
clause_hint Start before rest = before_select_hint before rest
clause_hint Select before rest = in_select_hint before rest
clause_hint From before rest = in_from_hint before rest
clause_hint Where before rest = in_where_hint before rest
clause_hint Group before rest = in_group_hint before rest

unfoldable pub sign_hint : List ℕ → List ℕ → List ℕ
sign_hint before rest = of_rows signs before rest

-- the hint for the first word of the rest, or else for the word before it
abbrev pub words_hint : List ℕ → List ℕ → List ℕ
words_hint before rest = or_else (word_hint (first_word rest)) (word_hint before)

-- The last word or sign of some bytes, and whether they end with it: a byte of a word continues it or begins one, a space
-- ends it, any other byte is a sign.
abbrev pub token_after : List ℕ × Bool → ℕ → List ℕ × Bool
token_after last byte =
    if is_name_byte byte then ((if last.1 then last.0 else []) ++ byte ∷ [], true)
    else ((if is_ascii_whitespace byte then last.0 else byte ∷ []), false)

abbrev pub last_token : List ℕ → List ℕ
last_token bytes = (fold token_after ([], false) bytes).0

-- the hint for a token that is unexpected after the token before it, in this clause: that of the first table with one
abbrev pub hint_in : Clause → List ℕ → List ℕ → List ℕ
hint_in clause before rest =
    or_else (context_hint before rest) (or_else (words_hint before rest) (or_else (clause_hint clause before rest) (sign_hint before rest)))

-- the hint for a byte that begins no token, between the text before it and from it on
abbrev pub byte_hint : List ℕ → List ℕ → List ℕ
byte_hint front rest = sign_hint (last_token front) rest

-- the hint for an unexpected token, between the text before it and from it on
abbrev pub token_hint : List ℕ → List ℕ → List ℕ
token_hint front rest = hint_in (clause_of front) (last_token front) rest
