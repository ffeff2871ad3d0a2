use Rattle.std.proofs.Common.{◌≡◌, ◌<◌, ◌≤◌, ◌-◌, ◌+◌, ◌++◌, ℕ, Bool, false, List, cond, drop, length, length-drop, take, eqb, ap, ◌∙◌, arith}
use Rattle.std.specs.List.{prefix_len}
use Rattle.std.proofs.lemmas.Bool.Decides.{nat_tests}
use Rattle.std.proofs.lemmas.List.{drop-append-le, take-append-le, take_all}
use Rattle.std.proofs.lemmas.List.Folds.{prefix_len-append}
use Rattle.tq_commands.specs.HeaderLines.{header_line, is_in_line, is_line_end, lines_of}
use Rattle.tq_commands.proofs.headers.has_header_line.Goals as goal

-- the prefix of a list that ends inside the list does not change if the list grows
prefix_apart : (p : ℕ → Bool) (xs ys : List ℕ) → prefix_len p xs < length xs → prefix_len p (xs ++ ys) ≡ prefix_len p xs
prefix_apart p xs ys less =
    let other : eqb (prefix_len p xs) (length xs) ≡ false = grind (arith, nat_tests) in
    prefix_len-append p xs ys ∙ ap (λ b. cond b (length xs + prefix_len p ys) (prefix_len p xs)) other

head_apart : (bytes more : List ℕ) → prefix_len is_line_end bytes ≤ length bytes → prefix_len is_in_line (lines_of bytes) < length (lines_of bytes) → header_line (bytes ++ more) ≡ header_line bytes
head_apart bytes more within less =
    let start = prefix_len is_line_end bytes in
    let before : start < length bytes = omega (arith, less, within, length-drop start bytes) in
    let lines : lines_of (bytes ++ more) ≡ lines_of bytes ++ more = ap (λ n. drop n (bytes ++ more)) (prefix_apart is_line_end bytes more before) ∙ drop-append-le start bytes more within in
    ap (λ l. take (prefix_len is_in_line l) l) lines
    ∙ ap (λ n. take n (lines_of bytes ++ more)) (prefix_apart is_in_line (lines_of bytes) more less)
    ∙ take-append-le (prefix_len is_in_line (lines_of bytes)) (lines_of bytes) more (omega (arith, less))

pub returns : goal.returns
returns c is more =
    let bytes = c.args.bytes.now in
    let start = c.line_ends_length.result in
    let lines = take (length bytes - start) (drop start bytes) in
    let whole : lines ≡ lines_of bytes = take_all (length bytes - start) (drop start bytes) (omega (arith, length-drop start bytes)) ∙ ap (λ n. drop n bytes) c.line_ends_length.ensures.value in
    let len = c.line_length.result in
    let shorter : len < length lines = grind (arith, nat_tests) in
    let counted : len ≡ prefix_len is_in_line (lines_of bytes) = c.line_length.ensures.value ∙ ap (prefix_len is_in_line) whole in
    head_apart bytes more (omega (arith, c.line_ends_length.ensures.value, c.line_ends_length.ensures.within)) (omega (arith, shorter, counted, ap length whole))
