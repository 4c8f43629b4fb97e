-- What is told of the sites of a stretch.
use Rattle.std.proofs.Common.{ℕ, ◌≡◌, ◌<◌, ◌≤◌, ◌+◌, ◌%◌, ◌^◌, ◌||◌, ◌&&◌, ◌⊎◌, inl, inr, nat_le, nat_lt, not, Bool, true, false, if◌then◌else◌, List, [], ◌∷◌, ◌++◌, Option, Some, None, option_and_then, refl, sym, ap, subst, ◌∙◌, ⊎_elim, arith, cond, zero, suc, length, get_or, drop, drop-cons, add-one}
use Rattle.std.proofs.lemmas.Bool.{leb-true, ltb-true, le-leb, lt-ltb, true≢false}
use Rattle.std.proofs.lemmas.List.Elements.{Contains-append_left, Contains-append_right, Contains-append_cases}
use Rattle.std.proofs.Math.ListN.{drop_of_length-le}
use Rattle.std.specs.Prelude.{Ok, Err}
use Rattle.std.specs.List.{Contains, AllByRecursion, filter, list_any}
use Rattle.std.specs.Option.{option_map_or}
use Rattle.elf_image.specs.Image.{Image}
use Rattle.eh_index.specs.eh_codes.declared.row.Entry.{Entry}
use Rattle.eh_index.specs.Places.{table_of}
use Rattle.eh_desc.specs.declared.descriptor.Desc.{Desc}
use Rattle.eh_desc.specs.Grammar.{items_of}
use Rattle.frame_entries.specs.declared.unwinding.EntrySummary.{EntrySummary}
use Rattle.frame_graph.specs.declared.edges.Edge.{Edge}
use Rattle.frame_graph.specs.declared.site_cache.AddressRange.{AddressRange}
use Rattle.frame_graph.specs.declared.site_cache.SiteCache.{SiteCache}
use Rattle.frame_graph.specs.FlowGraph.{FlowGraph}
use Rattle.frame_graph.specs.Places.{place_of, is_code_of}
use Rattle.frame_graph.specs.Edges.{edges_to, straight_edges}
use Rattle.frame_entries.specs.Unwinding.{summary_of_body, landing_changes}
use Rattle.frame_entries.specs.Scopes.{Item, is_one, is_scope_at, pad_of, is_cleanup, is_cleanup_at, pad_for}
use Rattle.frame_graph.specs.Sites.{entry_at, items_by, items_at, unwinding_by, unwinding_at, lands_out, pad_edges, edges_from, edges_of, site_at}
use Rattle.frame_graph.specs.SiteCaching.{IsIn, IsCut, AreCut, is_met, AreAtHand, ActSame, HaveSame, Tells, IsStretch, TellsOn}

-- ---- items that cover two sites alike

abbrev Alike : ℕ → ℕ → Item → Type 0
Alike a b item = is_one (is_scope_at a) item ≡ is_one (is_scope_at b) item

any_alike : (a b : ℕ) (items : List Item) → AllByRecursion (Alike a b) items → list_any (is_one (is_scope_at a)) items ≡ list_any (is_one (is_scope_at b)) items
any_alike a b [] h = refl
any_alike a b (x ∷ more) (h, t) = ap (λ c. c || list_any (is_one (is_scope_at a)) more) h ∙ ap (λ c. is_one (is_scope_at b) x || c) (any_alike a b more t)

out_alike : (s : FlowGraph) (a b : ℕ) (item : Item) → Alike a b item → is_one (lands_out s a) item ≡ is_one (lands_out s b) item
out_alike s a b (Ok d) h = ap (λ c. option_map_or (λ pad. not (is_code_of s pad)) (if c then pad_of d.kind else None) false) h
out_alike s a b (Err fault) h = refl

any_out_alike : (s : FlowGraph) (a b : ℕ) (items : List Item) → AllByRecursion (Alike a b) items → list_any (is_one (lands_out s a)) items ≡ list_any (is_one (lands_out s b)) items
any_out_alike s a b [] h = refl
any_out_alike s a b (x ∷ more) (h, t) = ap (λ c. c || list_any (is_one (lands_out s a)) more) (out_alike s a b x h) ∙ ap (λ c. is_one (lands_out s b) x || c) (any_out_alike s a b more t)

-- the edges of a descriptor that covers a site or doesn't, and of those after it
abbrev led : FlowGraph → ℕ → EntrySummary → Bool → Desc → List Item → Bool → List Edge
led s site u resumed d more covered =
    edges_to (landing_changes u resumed) (option_and_then (place_of s) (if covered then pad_of d.kind else None)) ++ pad_edges s site u (resumed || (covered && is_cleanup d.kind)) more

edges_alike : (s : FlowGraph) (u : EntrySummary) (a b : ℕ) (resumed : Bool) (items : List Item) → AllByRecursion (Alike a b) items → pad_edges s a u resumed items ≡ pad_edges s b u resumed items
edges_alike s u a b resumed [] h = refl
edges_alike s u a b resumed (Err fault ∷ more) (h, t) = edges_alike s u a b resumed more t
edges_alike s u a b resumed (Ok d ∷ more) (h, t) =
    ap (led s a u resumed d more) h
    ∙ ap (λ l. edges_to (landing_changes u resumed) (option_and_then (place_of s) (pad_for b d)) ++ l) (edges_alike s u a b (resumed || is_cleanup_at b d) more t)

-- ---- an item that is cut at its borders

same_tests : (a b : Bool) → (a ≡ true → b ≡ true) → (b ≡ true → a ≡ true) → a ≡ b
same_tests true b f g = sym (f refl)
same_tests false true f g = g refl
same_tests false false f g = refl

less_from : (a b e : ℕ) → nat_le e a ≡ nat_le e b → nat_lt a e ≡ true → nat_lt b e ≡ true
less_from a b e same h =
    let less : a < e = ltb-true a e h in ⊎_elim
    (λ (l : b < e). lt-ltb b e l)
    (λ (m : e ≤ b).
    let up : nat_le e b ≡ true = le-leb e b m in
    let back : e ≤ a = leb-true e a (same ∙ up) in absurd (omega (arith, less, back)))
    (less_or b e)
  where
    less_or : (x y : ℕ) → (x < y) ⊎ (y ≤ x)
    less_or x zero = inr (omega arith)
    less_or zero (suc y) = inl (omega arith)
    less_or (suc x) (suc y) = ⊎_elim (λ (l : x < y). inl (omega (arith, l))) (λ (m : y ≤ x). inr (omega (arith, m))) (less_or x y)

pub cut_at : (before middle after : AddressRange) (site end : ℕ) (d : Desc) → end ≡ (d.start + d.size) % 2 ^ 32 → IsIn after site
    → ((a : ℕ) → IsIn middle a → IsIn before a) → ((a : ℕ) → IsIn after a → IsIn middle a)
    → ((a : ℕ) → IsIn middle a → nat_le d.start a ≡ nat_le d.start site) → ((a : ℕ) → IsIn after a → nat_le end a ≡ nat_le end site)
    → IsCut before site (Ok d) after
cut_at before middle after site end d is h f g first last = record {
  holds = h;
  within = λ a i. f a (g a i);
  same = λ a i.
      let up = last a i in
      let less : nat_lt a end ≡ nat_lt site end = same_tests (nat_lt a end) (nat_lt site end) (less_from a site end up) (less_from site a end (sym up)) in
      ap (λ b. b && nat_lt a ((d.start + d.size) % 2 ^ 32)) (first a (g a i))
      ∙ ap (λ b. nat_le d.start site && b) (subst (λ (e : ℕ). nat_lt a e ≡ nat_lt site e) is less);
}

pub uncut : (span : AddressRange) (site : ℕ) (item : Item) → IsIn span site → ((d : Desc) → item ≡ Ok d → ⊥) → IsCut span site item span
uncut span site (Ok d) i h = absurd (h d refl)
uncut span site (Err fault) i h = record { holds = i; within = λ a j. j; same = λ a j. refl }

-- one item more is cut
pub cut_more : (P : Item → Type 0) (items : List Item) (i : ℕ) (d : Item) → i < length items → P (get_or items i d) → AllByRecursion P (drop (i + 1) items) → AllByRecursion P (drop i items)
cut_more P items i d l one more =
    let cut : drop i items ≡ get_or items i d ∷ drop (i + 1) items = rw (add-one) (drop-cons items i d l) in
    subst (λ (xs : List Item). AllByRecursion P xs) (sym cut) (one, more)

pub cut_over : (P : Item → Type 0) (items : List Item) (i : ℕ) → length items ≤ i → AllByRecursion P (drop i items)
cut_over P items i l = subst (λ (xs : List Item). AllByRecursion P xs) (sym (drop_of_length-le items l)) tt

-- ---- items whose scope meets a span

false_from : (b : Bool) → (b ≡ true → ⊥) → b ≡ false
false_from true h = absurd (h refl)
false_from false h = refl

both : (a b : Bool) → a ≡ true → b ≡ true → (a && b) ≡ true
both true true p q = refl
both true false p q = q
both false b p q = p

parts : (a b : Bool) → (a && b) ≡ true → (a ≡ true) × (b ≡ true)
parts true b p = (refl, p)
parts false b p = absurd cc

met_by : (low last a start end : ℕ) → low ≤ a → a ≤ last → (nat_le start a && nat_lt a end) ≡ true → (nat_le start last && nat_lt low end) ≡ true
met_by low last a start end l m h =
    let p = parts (nat_le start a) (nat_lt a end) h in
    let x : start ≤ a = leb-true start a p.0 in
    let y : a < end = ltb-true a end p.1 in
    both (nat_le start last) (nat_lt low end) (le-leb start last (omega arith)) (lt-ltb low end (omega arith))

-- an item whose scope doesn't meet it covers none of its addresses
uncovered : (span : AddressRange) (a : ℕ) (item : Item) → IsIn span a → is_met span item ≡ false → is_one (is_scope_at a) item ≡ false
uncovered span a (Ok d) i h = false_from (is_scope_at a d) (λ t. true≢false (sym (met_by span.low span.last a d.start ((d.start + d.size) % 2 ^ 32) i.low i.last t) ∙ h))
uncovered span a (Err fault) i h = refl

or_false : (a b : Bool) → a ≡ false → b ≡ (a || b)
or_false false b p = refl
or_false true b p = cc

one_met : (span : AddressRange) (test : Item → Bool) (x : Item) (more : List Item) → (is_met span x ≡ false → test x ≡ false) → list_any test (filter (is_met span) more) ≡ list_any test more
    → (b : Bool) → is_met span x ≡ b → list_any test (cond b (x ∷ filter (is_met span) more) (filter (is_met span) more)) ≡ list_any test (x ∷ more)
one_met span test x more f rest true e = ap (λ c. test x || c) rest
one_met span test x more f rest false e = rest ∙ or_false (test x) (list_any test more) (f e)

any_met : (span : AddressRange) (test : Item → Bool) → ((item : Item) → is_met span item ≡ false → test item ≡ false) → (items : List Item) → list_any test (filter (is_met span) items) ≡ list_any test items
any_met span test f [] = refl
any_met span test f (x ∷ more) = one_met span test x more (f x) (any_met span test f more) (is_met span x) refl

or_none : (a : Bool) → (a || false) ≡ a
or_none true = refl
or_none false = refl

edge_met : (s : FlowGraph) (span : AddressRange) (a : ℕ) (u : EntrySummary) (resumed : Bool) (d : Desc) (more : List Item) → (is_met span (Ok d) ≡ false → is_scope_at a d ≡ false)
    → ((r : Bool) → pad_edges s a u r (filter (is_met span) more) ≡ pad_edges s a u r more)
    → (b : Bool) → is_met span (Ok d) ≡ b → pad_edges s a u resumed (cond b (Ok d ∷ filter (is_met span) more) (filter (is_met span) more)) ≡ pad_edges s a u resumed (Ok d ∷ more)
edge_met s span a u resumed d more f rest true e = ap (λ l. edges_to (landing_changes u resumed) (option_and_then (place_of s) (pad_for a d)) ++ l) (rest (resumed || is_cleanup_at a d))
edge_met s span a u resumed d more f rest false e = rest resumed ∙ (ap (λ r. pad_edges s a u r more) (sym (or_none resumed)) ∙ ap (led s a u resumed d more) (sym (f e)))

edges_met : (s : FlowGraph) (span : AddressRange) (a : ℕ) (u : EntrySummary) → IsIn span a → (resumed : Bool) (items : List Item) → pad_edges s a u resumed (filter (is_met span) items) ≡ pad_edges s a u resumed items
edges_met s span a u i resumed [] = refl
edges_met s span a u i resumed (Err fault ∷ more) = edges_met s span a u i resumed more
edges_met s span a u i resumed (Ok d ∷ more) = edge_met s span a u resumed d more (λ e. uncovered span a (Ok d) i e) (λ r. edges_met s span a u i r more) (is_met span (Ok d)) refl

out_uncovered : (s : FlowGraph) (a : ℕ) (item : Item) → is_one (is_scope_at a) item ≡ false → is_one (lands_out s a) item ≡ false
out_uncovered s a (Ok d) h = ap (λ c. option_map_or (λ pad. not (is_code_of s pad)) (if c then pad_of d.kind else None) false) h
out_uncovered s a (Err fault) h = refl

-- the descriptors at hand act as all of them do
pub at_hand : (s : FlowGraph) (span : AddressRange) (near all : List Item) → near ≡ filter (is_met span) all → (a : ℕ) → IsIn span a → ActSame s near all a
at_hand s span near all e a i = rw (e) record {
  scoped = any_met span (is_one (is_scope_at a)) (λ item h. uncovered span a item i h) all;
  out = any_met span (is_one (lands_out s a)) (λ item h. out_uncovered s a item (uncovered span a item i h)) all;
  edges = λ u. edges_met s span a u i false all;
}

kept_near : (image : Image) (o : Option Entry) (e : Entry) (p : Option AddressRange) (span : AddressRange) (near : List Item) → o ≡ Some e → p ≡ Some span → AreAtHand image o p near
    → near ≡ filter (is_met span) (items_of e (table_of image e))
kept_near image o e p span near is chosen k =
    subst (λ (q : Option AddressRange). AreAtHand image (Some e) q near) chosen (subst (λ (q : Option Entry). AreAtHand image q p near) is k)

pub at_hand_of : (s : FlowGraph) (image : Image) (o : Option Entry) (e : Entry) (p : Option AddressRange) (span : AddressRange) (near : List Item) → image ≡ s.image → o ≡ Some e → p ≡ Some span → AreAtHand image o p near
    → (a : ℕ) → IsIn span a → ActSame s near (items_of e (table_of s.image e)) a
at_hand_of s image o e p span near same is chosen k =
    at_hand s span near (items_of e (table_of s.image e)) (subst (λ (i : Image). near ≡ filter (is_met span) (items_of e (table_of i e))) same (kept_near image o e p span near is chosen k))

-- ---- what the covering entry says

items_here : (s : FlowGraph) (a : ℕ) (o : Option Entry) → entry_at s a ≡ o → items_at s a ≡ items_by s o
unfolding items_at
items_here s a o e = ap (items_by s) e

unwinding_here : (s : FlowGraph) (a : ℕ) (o : Option Entry) → entry_at s a ≡ o → unwinding_at s a ≡ unwinding_by s o
unfolding unwinding_at
unwinding_here s a o e = ap (unwinding_by s) e

same_list : (xs ys : List Edge) → xs ≡ ys → HaveSame xs ys
same_list xs ys e w = (λ c. subst (λ (l : List Edge). Contains l w) e c, λ c. subst (λ (l : List Edge). Contains l w) (sym e) c)

pub via : (xs ys zs : List Edge) → HaveSame xs ys → HaveSame ys zs → HaveSame xs zs
via xs ys zs f g w = (λ c. (g w).0 ((f w).0 c), λ c. (f w).1 ((g w).1 c))

-- what is gathered of items at a site is told of each address that they cover as they cover the site
pub stretched : (s : FlowGraph) (t : SiteCache) (e : Entry) (site : ℕ) (span : AddressRange) (items : List Item) (full : List Edge) (u : EntrySummary)
    → t.entry ≡ Some e → u ≡ summary_of_body e.body (table_of s.image e)
    → ((a : ℕ) → IsIn span a → ActSame s items (items_of e (table_of s.image e)) a) → AreCut span site items t.span
    → t.scoped ≡ list_any (is_one (is_scope_at site)) items → t.out ≡ list_any (is_one (lands_out s site)) items
    → full ≡ pad_edges s site u false items → HaveSame t.edges.items full
    → IsStretch s t
stretched s t e site span items full u entry unwinding act cut scoped out edges same a i is =
    let all = items_of e (table_of s.image e) in
    let here : entry_at s a ≡ Some e = is ∙ entry in
    let listed : items_at s a ≡ all = items_here s a (Some e) here in
    let says : unwinding_at s a ≡ u = unwinding_here s a (Some e) here ∙ sym unwinding in
    let alike = cut.same a i in
    let acts = act a (cut.within a i) in
    record {
      scoped = scoped ∙ (sym (any_alike a site items alike) ∙ (acts.scoped ∙ ap (list_any (is_one (is_scope_at a))) (sym listed)));
      out = out ∙ (sym (any_out_alike s a site items alike) ∙ (acts.out ∙ ap (list_any (is_one (lands_out s a))) (sym listed)));
      edges = via t.edges.items full (edges_from s (Some a)) same (same_list full (edges_from s (Some a))
          (edges ∙ (sym (edges_alike s u a site false items alike) ∙ (acts.edges u ∙ (ap (pad_edges s a u false) (sym listed) ∙ ap (λ v. pad_edges s a v false (items_at s a)) (sym says))))));
    }

-- where no entry covers a site nothing does
pub untold : (s : FlowGraph) (t : SiteCache) → t.scoped ≡ false → t.out ≡ false → t.edges.items ≡ [] → (a : ℕ) → entry_at s a ≡ None → Tells s t a
untold s t scoped out edges a is =
    let listed : items_at s a ≡ [] = items_here s a None is in
    record {
      scoped = scoped ∙ ap (list_any (is_one (is_scope_at a))) (sym listed);
      out = out ∙ ap (list_any (is_one (lands_out s a))) (sym listed);
      edges = same_list t.edges.items (edges_from s (Some a)) (edges ∙ ap (pad_edges s a (unwinding_at s a) false) (sym listed));
    }

-- ---- edges one after the other

pub after_same : (xs ys zs : List Edge) → HaveSame ys zs → HaveSame (xs ++ ys) (xs ++ zs)
after_same xs ys zs f w = (
  λ c. ⊎_elim (λ (l : Contains xs w). Contains-append_left xs zs w l) (λ (r : Contains ys w). Contains-append_right xs zs w ((f w).0 r)) (Contains-append_cases xs ys w c),
  λ c. ⊎_elim (λ (l : Contains xs w). Contains-append_left xs ys w l) (λ (r : Contains zs w). Contains-append_right xs ys w ((f w).1 r)) (Contains-append_cases xs zs w c),
)

edges_here : (s : FlowGraph) (place : ℕ) (o : Option ℕ) → site_at s place ≡ o → straight_edges s place ++ edges_from s o ≡ edges_of s place
unfolding edges_of
edges_here s place o e = ap (λ q. straight_edges s place ++ edges_from s q) (sym e)

-- where a place leads that has a site, and one that has none
pub leads_on : (s : FlowGraph) (t : SiteCache) (place site : ℕ) (straight edges : List Edge) → TellsOn s t place → site_at s place ≡ Some site → straight ≡ straight_edges s place → edges ≡ straight ++ t.edges.items
    → HaveSame edges (edges_of s place)
leads_on s t place site straight edges tells e is all =
    via edges (straight_edges s place ++ edges_from s (Some site)) (edges_of s place)
    (via edges (straight_edges s place ++ t.edges.items) (straight_edges s place ++ edges_from s (Some site))
    (same_list edges (straight_edges s place ++ t.edges.items) (all ∙ ap (λ l. l ++ t.edges.items) is))
    (after_same (straight_edges s place) t.edges.items (edges_from s (Some site)) (tells site e).edges))
    (same_list (straight_edges s place ++ edges_from s (Some site)) (edges_of s place) (edges_here s place (Some site) e))

nothing_after : (xs : List Edge) → xs ≡ xs ++ []
nothing_after [] = refl
nothing_after (x ∷ xs) = ap (λ l. x ∷ l) (nothing_after xs)

pub leads_straight : (s : FlowGraph) (place : ℕ) (edges : List Edge) → site_at s place ≡ None → edges ≡ straight_edges s place → HaveSame edges (edges_of s place)
leads_straight s place edges e is = same_list edges (edges_of s place) (is ∙ (nothing_after (straight_edges s place) ∙ edges_here s place None e))
