use Rattle.std.proofs.Common.{◌≡◌, ◌≢◌, ℕ, List, [], ◌∷◌, Bool, true, false, refl, ap, ◌∙◌, arith}
use Rattle.std.specs.Prelude.{◌==◌, if◌then◌else◌}
use Rattle.std.proofs.lemmas.Bool.Decides.{Decides-eqb}
use Rattle.std.proofs.lemmas.Str.Pattern.{strip_prefix_char}
use Rattle.es_fields.specs.Trails.{without_dot}
use Rattle.es_fields.proofs.trail.Trail.path.Goals as goal

no_dot : (b : Bool) (c : ℕ) (cs : List ℕ) → (c == 46) ≡ b → ((rest : List ℕ) → c ∷ cs ≢ 46 ∷ rest) → c ∷ cs ≡ (if b then cs else c ∷ cs)
no_dot true c cs is lacks = absurd (lacks cs (ap (λ (x : ℕ). x ∷ cs) ((Decides-eqb c 46).0 is)))
no_dot false c cs is lacks = refl

without_dot-none : (text : List ℕ) → ((rest : List ℕ) → text ≢ 46 ∷ rest) → text ≡ without_dot text
without_dot-none [] lacks = refl
without_dot-none (c ∷ cs) lacks = no_dot (c == 46) c cs refl lacks

pub returns-in-None : goal.returns-in-None
returns-in-None c =
    let text = c.as_str-text.result.now in
    let lacks = rw c.in-None.is at (strip_prefix_char 46 text c.strip_prefix.result c.strip_prefix.ensures.cases (omega arith)) in
    without_dot-none text lacks ∙ ap without_dot (c.as_str-text.ensures.value ∙ c.self.view_is)
