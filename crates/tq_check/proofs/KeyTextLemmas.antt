-- The lines about the rows of one key, if none is wanted.
use Rattle.std.proofs.Common.{◌≡◌, ◌∙◌, ℕ, Bool, true, false, ◌||◌, List, [], ◌++◌, refl, sym}
use Rattle.tq_base.specs.declared.form.Form.{Form}
use Rattle.tq_base.specs.declared.fragment.Fragment.{Fragment}
use Rattle.tq_check.specs.KeyReports.{wanted_text, IsKeyText}
use Rattle.tq_check.specs.declared.findings.Finding.TheVariants.{Overlap, Gap}
use Rattle.tq_check.specs.declared.key_report.KeyChecks.{KeyChecks}

both_false : (a b : Bool) → (a || b) ≡ false → (a ≡ false) × (b ≡ false)
both_false true b is = cc
both_false false b is = (refl, is)

pub none_wanted : (form : Form) (keys : KeyChecks) (rows : List Fragment) (text : List ℕ) → (keys.overlaps || keys.gaps) ≡ false → text ≡ [] → IsKeyText form keys rows text
none_wanted form keys rows text is empty =
    let both = both_false keys.overlaps keys.gaps is in
    record {
      order = [];
      is_order = λ wanted. cc (wanted, is);
      told = empty ∙ (λ i. wanted_text (sym both.0 i) form Overlap rows [] ++ wanted_text (sym both.1 i) form Gap rows []);
    }
