-- One more step of building a text piece by piece.
use Rattle.std.proofs.Common.{◌≡◌, ◌∙◌, ℕ, ◌+◌, ◌<◌, List, [], ◌∷◌, ◌++◌, ap, sym, map, length, take, get_or, append_assoc, arith}
use Rattle.std.proofs.lemmas.List.{flat_map_more, take_more}
use Rattle.std.proofs.lemmas.List.Folds.{flat_map-map}
use Rattle.std.proofs.lemmas.List.FromFn.{map-range_with_len_more}
use Rattle.std.specs.List.{flat_map, range_with_len}

-- one more number, computed from its place
pub map_step : (f : ℕ → ℕ) (text : List ℕ) (n : ℕ)
    → (text ++ map f (range_with_len 0 n)) ++ f n ∷ [] ≡ text ++ map f (range_with_len 0 (n + 1))
map_step f text n =
    append_assoc text (map f (range_with_len 0 n)) (f n ∷ [])
    ∙ ap (λ l. text ++ l) (sym (map-range_with_len_more f 0 n n (omega arith)))

abbrev whole : List ℕ → List ℕ
whole text = text

-- one more piece, computed from its place
pub flat_map_step : (f : ℕ → List ℕ) (text : List ℕ) (n : ℕ)
    → (text ++ flat_map f (range_with_len 0 n)) ++ f n ≡ text ++ flat_map f (range_with_len 0 (n + 1))
flat_map_step f text n =
    ap (λ l. (text ++ l) ++ f n) (sym (flat_map-map whole f (range_with_len 0 n)))
    ∙ flat_map_more whole text (map f (range_with_len 0 n)) (f n)
    ∙ ap (λ l. text ++ flat_map whole l) (sym (map-range_with_len_more f 0 n n (omega arith)))
    ∙ ap (λ l. text ++ l) (flat_map-map whole f (range_with_len 0 (n + 1)))

-- one more piece, computed from the next item
pub items_step : {X : Type 0} (f : X → List ℕ) (text : List ℕ) (xs : List X) (n : ℕ) (d : X) → n < length xs
    → (text ++ flat_map f (take n xs)) ++ f (get_or xs n d) ≡ text ++ flat_map f (take (n + 1) xs)
items_step f text xs n d within =
    flat_map_more f text (take n xs) (get_or xs n d) ∙ ap (λ l. text ++ flat_map f l) (sym (take_more xs n d within))

-- two pieces after a text are one piece after it; below, three, four, five and eight
pub two_as_one : (t a b : List ℕ) → t ++ a ++ b ≡ t ++ (a ++ b)
two_as_one t a b = append_assoc t a b

pub as_one_piece : (t a b c : List ℕ) → t ++ a ++ b ++ c ≡ t ++ (a ++ b ++ c)
as_one_piece t a b c = ap (λ l. l ++ c) (append_assoc t a b) ∙ append_assoc t (a ++ b) c

pub four_as_one : (t a b c d : List ℕ) → t ++ a ++ b ++ c ++ d ≡ t ++ (a ++ b ++ c ++ d)
four_as_one t a b c d = simp append_assoc

pub five_as_one : (t a b c d e : List ℕ) → t ++ a ++ b ++ c ++ d ++ e ≡ t ++ (a ++ b ++ c ++ d ++ e)
five_as_one t a b c d e = simp append_assoc

pub eight_as_one : (t a b c d e f g h : List ℕ) → t ++ a ++ b ++ c ++ d ++ e ++ f ++ g ++ h ≡ t ++ (a ++ b ++ c ++ d ++ e ++ f ++ g ++ h)
eight_as_one t a b c d e f g h = simp append_assoc
