-- What is known of an address is known by the image.
use Rattle.std.proofs.Common.{◌≡◌, ℕ, Bool, true, false, List, [], ◌∷◌, inl, inr, ◌⊎◌, refl, sym, subst, ◌∙◌, arith}
use Rattle.std.specs.Prelude.{◌↔◌, Contains, All}
use Rattle.std.proofs.lemmas.Bool.{true≢false}
use Rattle.std.proofs.lemmas.List.Elements.{All-nil, All-cons, All-contains, Contains-append_left, Contains-append_right}
use Rattle.elf_image.specs.Functions.{Function, is_inside}
use Rattle.elf_image.specs.Image.{Image}
use Rattle.eh_types.specs.Laws.{GraphsAreOne}
use Rattle.eh_types.specs.Meant.{IsGraph}
use Rattle.run_images.specs.Start.{begins_function}
use Rattle.frame_reach.specs.Laws.{MarksExist}
use Rattle.sim_machines.specs.frame_check.Accepts.{AreRoles}
use Rattle.sim_machines.specs.frame_check.Roots.{flow_graph_of, roots_of}
use Rattle.sim_machines.specs.frame_check.Roles.{Table, look}
use Rattle.sim_runs.specs.OneReport.{AnswersAreOne, ProgramsAreOne}

-- two tests that hold exactly where a third thing does
same_test : {P : Type 0} (b c : Bool) → (b ≡ true) ↔ P → (c ≡ true) ↔ P → b ≡ c
same_test true true p q = refl
same_test true false p q = sym (q.1 (p.0 refl))
same_test false true p q = p.1 (q.0 refl)
same_test false false p q = refl

-- a function that holds the address, or none does
abbrev Holder : List Function → ℕ → Type 0
Holder fs a = ((f : Function) × Contains fs f × (is_inside a f ≡ true)) ⊎ All (λ (f : Function). is_inside a f ≡ false) fs

holder : (fs : List Function) (a : ℕ) → Holder fs a
holder [] a = inr (All-nil (λ (f : Function). is_inside a f ≡ false))
holder (g ∷ more) a = go (is_inside a g) refl (holder more a)
  where
    go : (b : Bool) → is_inside a g ≡ b → Holder more a → Holder (g ∷ more) a
    go true e rest = inl (g, Contains-append_left (g ∷ []) more g (0, omega arith, refl), e)
    go false e (inl some) = inl (some.0, Contains-append_right (g ∷ []) more some.0 some.1, some.2)
    go false e (inr none) = inr (All-cons (λ (f : Function). is_inside a f ≡ false) g more e none)

module _ (exist : MarksExist) (image : Image) (s t : Table) (u : AreRoles image image.functions s) (v : AreRoles image image.functions t) (a : ℕ) where
  same_saves : (look s a).saves ≡ (look t a).saves
  same_saves = elim (holder image.functions a) [
    | inl some ↦
        let m = exist (flow_graph_of image some.0) in
        u.saves some.0 m.0 a some.1 m.1 some.2 ∙ sym (v.saves some.0 m.0 a some.1 m.1 some.2)
    | inr none ↦
        let outside : (f : Function) → Contains image.functions f → is_inside a f ≡ true → ⊥ =
        λ f c i. true≢false (sym i ∙ All-contains (λ (g : Function). is_inside a g ≡ false) image.functions f none c) in
        u.blank a outside ∙ sym (v.blank a outside)
  ]

  same_role : look s a ≡ look t a
  same_role =
      let instr = same_test (look s a).is_instr (look t a).is_instr (u.instr a) (v.instr a) in
      let lowers = same_test (look s a).lowers (look t a).lowers (u.lowers a) (v.lowers a) in
      let starts = u.starts a ∙ sym (v.starts a) in
      let saves = same_saves in
      λ i. record { is_instr = instr i; lowers = lowers i; is_function = starts i; saves = saves i }

pub answers : GraphsAreOne → MarksExist → AnswersAreOne
answers graphs exist x y sx sy e =
    let graph : IsGraph x.image (roots_of x.image) y.types = subst (λ (image : Image). IsGraph image (roots_of image) y.types) (sym e) sy.graph in
    let roles : AreRoles x.image x.image.functions y.roles = subst (λ (image : Image). AreRoles image image.functions y.roles) (sym e) sy.roles in
    record {
      types = graphs x.image (roots_of x.image) x.types y.types sx.graph graph;
      roles = λ a. same_role exist x.image x.roles y.roles sx.roles roles a;
    }

pub programs : AnswersAreOne → ProgramsAreOne
programs one x y sx sy e =
    let is = one x y sx sy e in
    let types = is.types in
    let roles = is.roles in
    λ i. record {
      image = e i;
      types = types i;
      look = λ a. record { is_instr = (roles a i).is_instr; lowers = (roles a i).lowers; is_function = begins_function (e i).functions a; saves = (roles a i).saves };
    }
