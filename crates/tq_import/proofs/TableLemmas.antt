-- One more column of a table.
use Rattle.std.proofs.Common.{◌≡◌, ◌≢◌, ◌<◌, ℕ, Bool, true, false, List, [], ◌∷◌, ◌++◌, length, map, slice_get, ap, arith, bytes_eq, codes, length-append, refl, subst, sym}
use Rattle.std.specs.Prelude.{◌||◌, All, AllPairs, IfSome}
use Rattle.std.specs.List.{list_any}
use Rattle.std.proofs.lemmas.Bool.{or_parts}
use Rattle.std.proofs.lemmas.List.{map-append}
use Rattle.std.proofs.lemmas.List.Elements.{All-cons, All-nil, All-push}
use Rattle.std.proofs.lemmas.List.Quantifiers.{all_pairs_push}
use Rattle.std.proofs.lemmas.Slice.Eq.{bytes_eq-Decides}
use Rattle.tq_base.specs.declared.catalogue.Column.{Column}
use Rattle.tq_base.specs.declared.catalogue.Kind.TheVariants as kind
use Rattle.tq_base.specs.Catalogues.{IsTable}
use Rattle.tq_event.specs.Laws.{IsFoldedName}
use Rattle.tq_event.specs.Loading.{has_column}
use Rattle.tq_import.specs.declared.plan.Conversion.TheVariants.{Number}
use Rattle.tq_import.specs.declared.plan.PlannedColumn.{PlannedColumn}
use Rattle.tq_import.specs.Tables.{AreTableColumns, columns_with, table_column, table_kind}

-- the columns of the table have this name exactly if the planned ones do
pub planned_name : (columns : List PlannedColumn) (name : List ℕ) → list_any (λ (c : PlannedColumn). bytes_eq c.name name) columns ≡ has_column (map table_column columns) name
planned_name [] name = refl
planned_name (c ∷ columns) name = ap (λ (b : Bool). bytes_eq c.name name || b) (planned_name columns name)

differs : (a b : List ℕ) → bytes_eq a b ≡ false → a ≢ b
differs a b e same = let yes : bytes_eq a b ≡ true = (bytes_eq-Decides a b).1 same in cc (yes, e)

no_column : (columns : List Column) (name : List ℕ) → has_column columns name ≡ false → All (λ (n : List ℕ). n ≢ name) (map (λ (c : Column). c.name) columns)
no_column [] name e = All-nil (λ (n : List ℕ). n ≢ name)
no_column (c ∷ columns) name e =
    let parts = or_parts (bytes_eq c.name name) (has_column columns name) e in
    All-cons (λ (n : List ℕ). n ≢ name) c.name (map (λ (x : Column). x.name) columns) (differs c.name name parts.0) (no_column columns name parts.1)

key_stays : (columns : List Column) (c : Column) → 0 < length columns → IfSome (slice_get columns 0) (λ (d : Column). d.kind ≡ kind.Int) → IfSome (slice_get (columns ++ c ∷ []) 0) (λ (d : Column). d.kind ≡ kind.Int)
key_stays [] c some key = absurd (omega (arith, some))
key_stays (d ∷ columns) c some key = key

push_table : (name : List ℕ) (columns : List Column) (c : Column) → IsTable (record { name = name; columns = columns }) → has_column columns c.name ≡ false → length columns < 16 → IsTable (record { name = name; columns = columns ++ c ∷ [] })
push_table name columns c is new few = record {
  some = omega (arith, is.some, length-append columns (c ∷ []));
  few = omega (arith, few, length-append columns (c ∷ []));
  names = subst (AllPairs (λ (a b : List ℕ). a ≢ b)) (sym (map-append (λ (x : Column). x.name) columns (c ∷ [])))
      (all_pairs_push (λ (a b : List ℕ). a ≢ b) (map (λ (x : Column). x.name) columns) c.name is.names (no_column columns c.name new));
  key = key_stays columns c is.some is.key;
}

columns_push : (numbered : Bool) (columns : List PlannedColumn) (c : PlannedColumn) → columns_with numbered (columns ++ c ∷ []) ≡ columns_with numbered columns ++ table_column c ∷ []
columns_push true columns c = ap (λ (l : List Column). record { name = codes "row"; kind = kind.Int } ∷ l) (map-append table_column columns (c ∷ []))
columns_push false columns c = map-append table_column columns (c ∷ [])

pub push_column : (numbered : Bool) (columns : List PlannedColumn) (c : PlannedColumn) → AreTableColumns numbered columns → IsFoldedName c.name → has_column (columns_with numbered columns) c.name ≡ false → length (columns_with numbered columns) < 16
    → AreTableColumns numbered (columns ++ c ∷ [])
push_column numbered columns c are named new few = record {
  table = λ name. subst (λ (l : List Column). IsTable (record { name = name; columns = l })) (sym (columns_push numbered columns c)) (push_table name (columns_with numbered columns) (table_column c) (are.table name) new few);
  named = All-push (λ (x : PlannedColumn). IsFoldedName x.name) columns c are.named named;
}

-- one integer column is a table
one_table : (name : List ℕ) (c : Column) → c.kind ≡ kind.Int → IsTable (record { name = name; columns = c ∷ [] })
one_table name c int = record { some = omega arith; few = omega arith; names = λ i j d lt below. absurd (omega arith); key = int }

-- row numbers alone
pub numbers_alone : AreTableColumns true []
numbers_alone = record { table = λ name. one_table name (record { name = codes "row"; kind = kind.Int }) refl; named = All-nil (λ (c : PlannedColumn). IsFoldedName c.name) }

-- a key of numbers alone
pub key_alone : (c : PlannedColumn) (places : ℕ) → c.conversion ≡ Number places → IsFoldedName c.name → AreTableColumns false (c ∷ [])
key_alone c places number named = record {
  table = λ name. one_table name (table_column c) (ap table_kind number);
  named = All-cons (λ (x : PlannedColumn). IsFoldedName x.name) c [] named (All-nil (λ (x : PlannedColumn). IsFoldedName x.name));
}
