-- Several lists of rows. This project's own.
use Rattle.std.specs.Prelude.{◌≡◌, ℕ, List, [], ◌∷◌, length, take, drop, All, IsSorted}
use Rattle.std.specs.List.{flat_map}
use Rattle.tq_base.specs.declared.fragment.Fragment.{Fragment}
use Rattle.tq_base.specs.Fragments.{fragment_cmp}
use Rattle.tq_base.specs.RowLists.{RowList}

-- each row has `width` values
abbrev pub AreOfWidth : ℕ → RowList → Type 0
AreOfWidth width rows = All (λ (row : Fragment). length row.values ≡ width) rows.items

-- the rows are in order: by values, then by start, then by end
abbrev pub AreInOrder : RowList → Type 0
AreInOrder rows = IsSorted fragment_cmp rows.items

-- the rows of all lists, one list after the other
abbrev pub all_rows : List RowList → List Fragment
all_rows lists = flat_map (λ (rows : RowList). rows.items) lists

-- the list cut into lists of these lengths, one after the other
abbrev pub cut_by : {A : Type 0} → List ℕ → List A → List (List A)
cut_by [] xs = []
cut_by (len ∷ lens) xs = take len xs ∷ cut_by lens (drop len xs)
