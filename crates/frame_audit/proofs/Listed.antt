-- What is found of the functions of an image, one after the other.
use Rattle.std.proofs.Common.{◌≡◌, ℕ, ◌+◌, ◌<◌, zero, suc, List, [], ◌∷◌, ◌++◌, length, get_or, take, Bool, Option, Some, None, refl, sym, ap, ◌∙◌, subst, arith}
use Rattle.std.specs.Prelude.{◌↔◌, map, slice_get, is_some}
use Rattle.std.proofs.lemmas.List.{take_more}
use Rattle.elf_image.specs.Functions.{Function}
use Rattle.elf_image.specs.Image.{Image}
use Rattle.frame_reach.proofs.Existing.{marks_agree}
use Rattle.frame_flow.proofs.Instance.{facts_decide}
use Rattle.frame_check.specs.Roots.{flow_graph_of}
use Rattle.frame_check.specs.Accepts.{IsWell}
use Rattle.frame_check.proofs.Wells.{none_stands, same_item}
use Rattle.frame_audit.specs.declared.functions.FrameFinding.{FrameFinding}
use Rattle.frame_audit.specs.Laws.{AuditRow, audit_view, ListsAreWhole, ListsAreOne}
use Rattle.frame_audit.specs.Listing.{FunctionAudit, IsUnwell, IsFinding, IsAudited, AreAudited}

-- ---- a list that grows

audited_more : (image : Image) (fs : List Function) (xs : List FunctionAudit) (f : Function) (x : FunctionAudit) → AreAudited image fs xs → IsAudited image f x → AreAudited image (fs ++ f ∷ []) (xs ++ x ∷ [])
audited_more image [] [] f x h is = (is, tt)
audited_more image [] (y ∷ xs) f x h is = absurd h
audited_more image (g ∷ fs) [] f x h is = absurd h
audited_more image (g ∷ fs) (y ∷ xs) f x h is = (h.0, audited_more image fs xs f x h.1 is)

pub audited_item : (image : Image) (fs : List Function) (i : ℕ) (f : Function) (xs : List FunctionAudit) (x : FunctionAudit) → fs ≡ image.functions → i < length fs → f ≡ get_or fs i f
    → AreAudited image (take i image.functions) xs → IsAudited image f x → AreAudited image (take (i + 1) image.functions) (xs ++ x ∷ [])
audited_item image fs i f xs x e l is h a =
    let at : f ≡ get_or image.functions i f = same_item fs image.functions i f e is in
    let within : i < length image.functions = subst (λ (gs : List Function). i < length gs) e l in
    let more : take (i + 1) image.functions ≡ take i image.functions ++ f ∷ [] = take_more image.functions i f within ∙ ap (λ (g : Function). take i image.functions ++ g ∷ []) (sym at) in
    subst (λ (gs : List Function). AreAudited image gs (xs ++ x ∷ [])) (sym more) (audited_more image (take i image.functions) xs f x h a)

-- ---- what is said of one function

unwell_is_not_well : (image : Image) (f : Function) (u : FrameFinding) → IsUnwell (flow_graph_of image f) f u → IsWell (flow_graph_of image f) → ⊥
unwell_is_not_well image f u x w = none_stands marks_agree facts_decide (flow_graph_of image f) (omega (arith, x.address, x.inside)) w x.place u.cause x.stands

decided : (image : Image) (f : Function) (u : Option FrameFinding) → IsFinding (flow_graph_of image f) f u → (u ≡ None) ↔ IsWell (flow_graph_of image f)
decided image f None w = (λ e. w, λ v. refl)
decided image f (Some u) x = (λ e. absurd (cc), λ w. absurd (unwell_is_not_well image f u x w))

pub unlisted_is_well : (image : Image) (f : Function) (x : FunctionAudit) → IsAudited image f x → (x.unwell ≡ None) ↔ IsWell (flow_graph_of image f)
unlisted_is_well image f x is = decided image f x.unwell is.finding

-- ---- the lists are whole

same_starts : (image : Image) (fs : List Function) (xs : List FunctionAudit) → AreAudited image fs xs → map (λ (a : FunctionAudit). a.start) xs ≡ map (λ (f : Function). f.start) fs
same_starts image [] [] h = refl
same_starts image [] (x ∷ xs) h = absurd h
same_starts image (f ∷ fs) [] h = absurd h
same_starts image (f ∷ fs) (x ∷ xs) h = let one = h.0.start in let rest = same_starts image fs xs h.1 in cc

each_is_said : (image : Image) (fs : List Function) (xs : List FunctionAudit) (i : ℕ) (f : Function) (x : FunctionAudit) → AreAudited image fs xs → slice_get fs i ≡ Some f → slice_get xs i ≡ Some x
    → (x.unwell ≡ None) ↔ IsWell (flow_graph_of image f)
each_is_said image [] xs i f x h e g = absurd (cc)
each_is_said image (k ∷ fs) [] i f x h e g = absurd h
each_is_said image (k ∷ fs) (y ∷ xs) zero f x h e g =
    let one : k ≡ f = cc in
    let two : y ≡ x = cc in
    unlisted_is_well image f x (subst (λ (z : FunctionAudit). IsAudited image f z) two (subst (λ (g : Function). IsAudited image g y) one h.0))
each_is_said image (k ∷ fs) (y ∷ xs) (suc i) f x h e g = each_is_said image fs xs i f x h.1 e g

pub lists_whole : ListsAreWhole
lists_whole = record { order = same_starts; each = each_is_said }

-- ---- and one

listed_alike : (image : Image) (f : Function) (u v : Option FrameFinding) → IsFinding (flow_graph_of image f) f u → IsFinding (flow_graph_of image f) f v → is_some u ≡ is_some v
listed_alike image f None None x y = refl
listed_alike image f None (Some v) x y = absurd (unwell_is_not_well image f v y x)
listed_alike image f (Some u) None x y = absurd (unwell_is_not_well image f u x y)
listed_alike image f (Some u) (Some v) x y = refl

abbrev said_of : List ℕ → ℕ → Bool → Bool → AuditRow
said_of name start unwinds listed = record { name = name; start = start; unwinds = unwinds; listed = listed }

said_alike : (image : Image) (f : Function) (x y : FunctionAudit) → IsAudited image f x → IsAudited image f y → audit_view x ≡ audit_view y
said_alike image f x y a b =
    let name : x.name ≡ y.name = a.name ∙ sym b.name in
    let start : x.start ≡ y.start = a.start ∙ sym b.start in
    let unwinds : x.unwinds ≡ y.unwinds = a.unwinds ∙ sym b.unwinds in
    let listed : is_some x.unwell ≡ is_some y.unwell = listed_alike image f x.unwell y.unwell a.finding b.finding in
    ap (λ n. said_of n x.start x.unwinds (is_some x.unwell)) name
    ∙ ap (λ s. said_of y.name s x.unwinds (is_some x.unwell)) start
    ∙ ap (λ w. said_of y.name y.start w (is_some x.unwell)) unwinds
    ∙ ap (λ l. said_of y.name y.start y.unwinds l) listed

pub lists_one : ListsAreOne
lists_one image [] [] [] h g = refl
lists_one image [] [] (y ∷ ys) h g = absurd g
lists_one image [] (x ∷ xs) ys h g = absurd h
lists_one image (f ∷ fs) [] ys h g = absurd h
lists_one image (f ∷ fs) (x ∷ xs) [] h g = absurd g
lists_one image (f ∷ fs) (x ∷ xs) (y ∷ ys) h g = let one = said_alike image f x y h.0 g.0 in let rest = lists_one image fs xs ys h.1 g.1 in cc
