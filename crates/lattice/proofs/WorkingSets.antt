-- Laws of working sets: what they have, and which lists cover them.
use Rattle.std.proofs.Common.{flat_map, ◌≡◌, ℕ, true, List, [], ◌∷◌, ◌++◌, refl, sym, ◌∙◌, subst, ⊎_elim, arith, zero, suc}
use Rattle.std.proofs.Common.{◌<◌, length, get_or}
use Rattle.lattice.specs.Words.{Family, includes, IsFamily, Has, Covers, is_distinct, is_node_list, sub, low_cofactor, high_cofactor}
use Rattle.lattice.specs.Words.{distinct, working_set}
use Rattle.lattice.proofs.Families.{IsFamily-nil, Has-nil, Has-head, Has-tail, Has-cases, Has-append_left, Has-append_right}
use Rattle.lattice.proofs.Families.{Has-append_cases, IsFamily_wider, IsFamily-unit}
use Rattle.lattice.proofs.Cofactors.{high_cofactor_none, sub-full, sub-empty, cases_empty, sub-zero}
use Rattle.lattice.proofs.Pointwise.{includes-distinct}

-- A working set has the subfamilies of its list's families, and no others.
pub working_set_members : (n : ℕ) (list : List Family) (f : Family) → includes (working_set n list) f ≡ includes (flat_map (sub n) list) f
unfolding working_set
working_set_members n list f = includes-distinct (flat_map (sub n) list) f

is_distinct-distinct : (fs : List Family) → is_distinct (distinct fs) ≡ true
unfolding distinct
is_distinct-distinct [] = refl
is_distinct-distinct (f ∷ fs) = grind (arith, includes-distinct, is_distinct-distinct fs)

-- no subfamily is a family without variables
sub_not : (c : Family) → IsFamily 0 c → (d : ℕ) (f : Family) → Has (sub d f) c → ⊥
sub_not c is zero f h = Has-nil c (rw sub-zero at h)
sub_not c is (suc d) f h =
    let again = sub_not c is d in let none = high_cofactor_none d c (IsFamily_wider 0 d c is (omega arith)) in
    let some = sub-full d f in let rest = Has-append_cases (sub d (low_cofactor d f)) (sub d (high_cofactor d f)) c in
    grind (arith, again f, again (low_cofactor d f), again (high_cofactor d f), none, cases_empty, sub-empty d f, some, Has-cases, rest)

all_not : (c : Family) → IsFamily 0 c → (n : ℕ) (list : List Family) → Has (flat_map (sub n) list) c → ⊥
all_not c is n [] h = Has-nil c h
all_not c is n (f ∷ fs) h = grind (arith, sub_not c is n f, all_not c is n fs, Has-append_cases (sub n f) (flat_map (sub n) fs) c h)

-- A working set is a list of nodes: distinct, and none empty or {0}.
pub working_set_is_node_list : (n : ℕ) (list : List Family) → is_node_list (working_set n list) ≡ true
unfolding working_set
working_set_is_node_list n list =
    let empty = all_not [] (IsFamily-nil 0) n list in let unit = all_not (0 ∷ []) (IsFamily-unit 0) n list in
    grind (arith, is_distinct-distinct (flat_map (sub n) list), includes-distinct, empty, unit)

-- No family stands in a working set twice.
pub working_set_is_distinct : (n : ℕ) (list : List Family) → is_distinct (working_set n list) ≡ true
unfolding working_set
working_set_is_distinct n list = is_distinct-distinct (flat_map (sub n) list)

-- What the list of one family has, the lists of all families have together.
pub Has-all_of : (list : Family → List Family) (fs : List Family) (f g : Family) → Has fs f → Has (list f) g → Has (flat_map list fs) g
Has-all_of list [] f g h i = absurd (Has-nil f h)
Has-all_of list (k ∷ ks) f g h i = grind (arith, Has-append_left, Has-append_right, Has-all_of list ks f g, Has-cases k ks f h, i)

of_each : (n : ℕ) (fs list : List Family) → ((g : Family) → Has list g → Covers fs (sub n g)) → (f : Family) → Has (flat_map (sub n) list) f
    → Has fs f
of_each n fs [] each f h = absurd (Has-nil f h)
of_each n fs (k ∷ ks) each f h = let again = of_each n fs ks (λ g j. each g (Has-tail k ks g j)) f in
    grind (arith, each k (Has-head k ks) f, again, Has-append_cases (sub n k) (flat_map (sub n) ks) f h)

-- A working set has the subfamilies of each family of its list.
pub covers_sub : (n : ℕ) (list : List Family) (g : Family) → Has list g → Covers (working_set n list) (sub n g)
covers_sub n list g h f i = working_set_members n list f ∙ Has-all_of (sub n) list g f h i

-- Families with the subfamilies of each of a list's families have the working set of the list.
pub covers_each : (n : ℕ) (fs list : List Family) → ((g : Family) → Has list g → Covers fs (sub n g)) → Covers fs (working_set n list)
covers_each n fs list each f h = of_each n fs list each f (sym (working_set_members n list f) ∙ h)

-- Families with the working set of a list have the working set of each part of the list.
pub covers_part : (n : ℕ) (fs list part : List Family) → Covers fs (working_set n list) → Covers list part → Covers fs (working_set n part)
covers_part n fs list part all more = covers_each n fs part (λ g h f i. all f (covers_sub n list g (more g h) f i))

-- Families with the working set of a list have the subfamilies of each of the list's families.
pub covers_family : (n : ℕ) (fs list : List Family) (g : Family) → Covers fs (working_set n list) → Has list g → Covers fs (sub n g)
covers_family n fs list g all h f i = all f (covers_sub n list g h f i)

-- Families with the working sets of two lists have that of both, one after the other.
pub covers_append : (n : ℕ) (fs xs ys : List Family) → Covers fs (working_set n xs) → Covers fs (working_set n ys)
    → Covers fs (working_set n (xs ++ ys))
covers_append n fs xs ys left right =
    covers_each n fs (xs ++ ys) (λ g h f i. grind (arith, Has-append_cases xs ys g h, covers_sub, left f, right f))

-- Families with the subfamilies of a family and the working set of a list have that of the list with the family.
pub covers_cons : (n : ℕ) (fs ys : List Family) (k : Family) → Covers fs (sub n k) → Covers fs (working_set n ys)
    → Covers fs (working_set n (k ∷ ys))
covers_cons n fs ys k one rest = covers_each n fs (k ∷ ys) (λ g h f i. grind (arith, Has-cases k ys g h, covers_sub, one f, rest f))

-- Any families have the working set of no families.
pub covers_nil : (n : ℕ) (fs : List Family) → Covers fs (working_set n [])
covers_nil n fs = covers_each n fs [] (λ g h. absurd (Has-nil g h))

-- Families with the subfamilies of one family have its working set.
pub covers_one : (n : ℕ) (fs : List Family) (k : Family) → Covers fs (sub n k) → Covers fs (working_set n (k ∷ []))
covers_one n fs k one = covers_cons n fs [] k one (covers_nil n fs)

-- Families with the working set of a list have the subfamilies of its first family.
pub covers_head : (n : ℕ) (fs ys : List Family) (k : Family) → Covers fs (working_set n (k ∷ ys)) → Covers fs (sub n k)
covers_head n fs ys k all = covers_family n fs (k ∷ ys) k all (Has-head k ys)

-- Families with the working set of a list have that of its families after the first.
pub covers_tail : (n : ℕ) (fs ys : List Family) (k : Family) → Covers fs (working_set n (k ∷ ys)) → Covers fs (working_set n ys)
covers_tail n fs ys k all = covers_part n fs (k ∷ ys) ys all (λ f h. Has-tail k ys f h)

-- Families with the working set of two lists, one after the other, have that of the first.
pub covers_left : (n : ℕ) (fs xs ys : List Family) → Covers fs (working_set n (xs ++ ys)) → Covers fs (working_set n xs)
covers_left n fs xs ys all = covers_part n fs (xs ++ ys) xs all (λ f h. Has-append_left xs ys f h)

-- Families with the working set of two lists, one after the other, have that of the second.
pub covers_right : (n : ℕ) (fs xs ys : List Family) → Covers fs (working_set n (xs ++ ys)) → Covers fs (working_set n ys)
covers_right n fs xs ys all = covers_part n fs (xs ++ ys) ys all (λ f h. Has-append_right xs ys f h)

-- What the list of an element has, the lists of all elements have together.
pub part_at : {X : Type 0} (list : X → List Family) (xs : List X) (i : ℕ) (d : X) → i < length xs
    → Covers (flat_map list xs) (list (get_or xs i d))
part_at list [] i d less f h = absurd (omega arith)
part_at list (x ∷ xs) zero d less f h = Has-append_left (list x) (flat_map list xs) f h
part_at list (x ∷ xs) (suc i) d less f h = Has-append_right (list x) (flat_map list xs) f (part_at list xs i d (omega (arith, less)) f h)

-- Any families have all of no families.
pub covers_nothing : (fs : List Family) → Covers fs []
covers_nothing fs f h = absurd (Has-nil f h)

-- Families that have a family and all of a list have all of the list with the family.
pub covers_more : (fs gs : List Family) (g : Family) → Has fs g → Covers fs gs → Covers fs (g ∷ gs)
covers_more fs gs g one rest f h = ⊎_elim (λ e. subst (Has fs) e one) (λ i. rest f i) (Has-cases g gs f h)

-- Families that have all of two lists have all of both, one after the other.
pub covers_lists : (fs xs ys : List Family) → Covers fs xs → Covers fs ys → Covers fs (xs ++ ys)
covers_lists fs xs ys left right f h = ⊎_elim (λ i. left f i) (λ i. right f i) (Has-append_cases xs ys f h)
