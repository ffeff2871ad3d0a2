-- One step of loading a table.
use Rattle.std.proofs.Common.{◌≡◌, ◌≢◌, ◌≤◌, ◌<◌, ◌==◌, ℕ, ◌+◌, Bool, if◌then◌else◌, true, false, List, [], ◌∷◌, ◌++◌, Ok, Err, drop, nat_lt, sum_by, refl, ap, ◌∙◌, arith}
use Rattle.std.proofs.lemmas.Bool.Decides.{nat_tests}
use Rattle.std.proofs.lemmas.List.Sums.{sum_by-append}
use Rattle.tq_base.specs.declared.catalogue.Column.{Column}
use Rattle.tq_base.specs.declared.period.TheConstants.{FOREVER}
use Rattle.tq_base.specs.declared.form.Form.{Form}
use Rattle.tq_event.specs.Entries.{Entry}
use Rattle.tq_event.specs.declared.fault.LoadFault.{LoadFault}
use Rattle.tq_event.specs.declared.fault.LoadFaultKind.{LoadFaultKind}
use Rattle.tq_event.specs.declared.fault.LoadFaultKind.TheVariants.{BadHeader, OutOfMemory, TooManyEvents}
use Rattle.tq_event.specs.Loading.{columns_of, csv_records, entries_after, entry_of, event_count, header_of, has_two_boms, next_entries, out_of_memory, table_contents}

abbrev pub named : ℕ → ℕ → LoadFaultKind → LoadFault
named table number kind = record { kind = kind; table = table; number = number }

-- a fault other than `OutOfMemory` comes from a kind other than `OutOfMemory`
pub known_kind : (kind : LoadFaultKind) (fault : LoadFault) → (kind ≡ OutOfMemory → fault ≡ out_of_memory) → fault.kind ≢ OutOfMemory → kind ≢ OutOfMemory
known_kind kind fault parsed known same = known (ap (λ (f : LoadFault). f.kind) (parsed same))

-- the columns are those of the first record; without a record there are none
pub columns_first : (bytes : List ℕ) (fields : List (List ℕ)) (more : List (List (List ℕ))) → has_two_boms bytes ≡ false → csv_records bytes ≡ fields ∷ more → columns_of bytes ≡ header_of fields
columns_first bytes fields more marked split = rw (marked, split) refl

pub columns_none : (bytes : List ℕ) → has_two_boms bytes ≡ false → csv_records bytes ≡ [] → columns_of bytes ≡ Err BadHeader
columns_none bytes marked split = rw (marked, split) refl

module _ (form : Form) (limit table : ℕ) (before : List Entry) (bytes : List ℕ) where
  pub header_fault : (kind : LoadFaultKind) (fault : LoadFault) → columns_of bytes ≡ Err kind → fault ≡ named table 1 kind → table_contents form limit table before bytes ≡ Err fault
  header_fault kind fault e named_it = rw (e, named_it) refl

  pub read_ok : (columns : List Column) (entries : List Entry) → columns_of bytes ≡ Ok columns
      → entries_after form limit table columns 2 before (drop 1 (csv_records bytes)) ≡ Ok entries → table_contents form limit table before bytes ≡ Ok (columns, entries)
  read_ok columns entries e f = rw (e, f) refl

  pub read_fault : (columns : List Column) (fault : LoadFault) → columns_of bytes ≡ Ok columns
      → entries_after form limit table columns 2 before (drop 1 (csv_records bytes)) ≡ Err fault → table_contents form limit table before bytes ≡ Err fault
  read_fault columns fault e f = rw (e, f) refl

module _ (form : Form) (limit table : ℕ) (columns : List Column) (number : ℕ) (entries : List Entry) (fields : List (List ℕ)) (more left : List (List (List ℕ))) (split : left ≡ fields ∷ more) where
  pub entry_fault : (kind : LoadFaultKind) (fault : LoadFault) → entry_of form table columns fields ≡ Err kind → fault ≡ named table number kind → entries_after form limit table columns number entries left ≡ Err fault
  entry_fault kind fault e named_it = rw (split, e, named_it) refl

  pub add_fault : (entry : Entry) (kind : LoadFaultKind) (fault : LoadFault) → entry_of form table columns fields ≡ Ok entry → next_entries limit entries entry ≡ Err kind
      → fault ≡ named table number kind → entries_after form limit table columns number entries left ≡ Err fault
  add_fault entry kind fault e f named_it = rw (split, e) (rw f (rw named_it refl))

  pub add_ok : (entry : Entry) (new : List Entry) → entry_of form table columns fields ≡ Ok entry → next_entries limit entries entry ≡ Ok new
      → entries_after form limit table columns number entries left ≡ entries_after form limit table columns (number + 1) new more
  add_ok entry new e f = rw (split, e) (rw f refl)

-- the events of an entry stay within the limit, or exceed it
module _ (limit : ℕ) (entries : List Entry) (entry : Entry) (n : ℕ) (count : sum_by event_count entries + event_count entry ≡ n) where
  pub next_ok : n ≤ limit → next_entries limit entries entry ≡ Ok (entries ++ entry ∷ [])
  next_ok within = let few : nat_lt limit n ≡ false = grind (arith, nat_tests) in rw (count, few) refl

  pub next_many : limit < n → next_entries limit entries entry ≡ Err TooManyEvents
  next_many past = let many : nat_lt limit n ≡ true = grind (arith, nat_tests) in rw (count, many) refl

-- the entries of a table come after the events counted so far
pub told_count : (before parsed : List Entry) (old now : ℕ) → sum_by event_count before ≡ old → now ≡ old + sum_by event_count parsed → sum_by event_count (before ++ parsed) ≡ now
told_count before parsed old now first all = sum_by-append event_count before parsed ∙ omega (arith, first, all)

-- an entry makes at least one event
pub makes_events : (entry : Entry) → 1 ≤ event_count entry
makes_events entry = by (entry.to == FOREVER)
  where
    by : (b : Bool) → 1 ≤ (if b then 1 else 2)
    by true = omega arith
    by false = omega arith
