-- A place after a line feed, and the parts of one file among those of all files.
use Rattle.std.proofs.Common.{◌≡◌, ◌≢◌, ◌≤◌, ◌<◌, ◌+◌, ◌++◌, ◌∷◌, [], ◌==◌, ℕ, true, List, length, take, ap, sym, subst, ◌∙◌}
use Rattle.std.specs.Prelude.{All, slice_index, slice_index_or}
use Rattle.std.proofs.lemmas.List.{take_more}
use Rattle.std.proofs.lemmas.List.Elements.{All-push}
use Rattle.std.proofs.lemmas.Option.{get_or_from_slice_get}
use Rattle.tq_event.specs.declared.file.TableFile.{TableFile}
use Rattle.tq_load.specs.declared.part.Part.{Part}
use Rattle.tq_load.specs.Feeds.{ends_in_feed}
use Rattle.tq_load.specs.Parts.{IsCut, IsPart, IsPartOf}
use Rattle.tq_load.proofs.FeedLemmas.{last_put}

module _ (files : List TableFile) (bytes : List ℕ) (part : Part) (here : part.table < length files) (of_table : (d : TableFile) → (slice_index_or files part.table d).bytes ≡ bytes)
    (ordered : part.start ≤ part.end) (within : part.end ≤ length bytes) (begins : part.start ≢ 0 → IsCut bytes part.start) where
  is_part_of : IsPartOf files part
  is_part_of = record {
    table = here;
    of_file = λ file is.
        subst (λ b. IsPart b part) (sym (of_table file) ∙ ap (λ (f : TableFile). f.bytes) (get_or_from_slice_get files part.table file file is))
        (record { ordered = ordered; within = within; begins = begins });
  }

  pub part_added : (parts new : List Part) → new ≡ parts ++ part ∷ [] → All (IsPartOf files) parts → All (IsPartOf files) new
  part_added parts new put all = subst (All (IsPartOf files)) (sym put) (All-push (IsPartOf files) parts part all is_part_of)

-- the bytes up to one that is a line feed, and with it
pub feed_taken : (bytes : List ℕ) (place : ℕ) → place < length bytes → slice_index bytes place ≡ 10 → ends_in_feed (take (place + 1) bytes) ≡ true
feed_taken bytes place here is =
    ap ends_in_feed (take_more bytes place 0 here ∙ ap (λ b. take place bytes ++ b ∷ []) is) ∙ ap (λ b. b == 10) (last_put (take place bytes) 10 0)
