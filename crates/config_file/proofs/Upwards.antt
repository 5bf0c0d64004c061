-- From one folder to the one above.
use Rattle.std.proofs.Common.{◌≡◌, ◌<◌, inl, inr, ap, arith, refl, subst, sym, ℕ, zero, suc, Bool, true, false, ◌++◌, Option, Some, None}
use Rattle.std.specs.Prelude.{codes}
use Rattle.config_file.specs.Found.{IsFound, config_in, top_in}
use Rattle.check_config.specs.devices.Contents.{Content, IsThere}
use Rattle.check_config.specs.squawk_words.Words.{Text}

there_at : (content : Text → Content) (name other : Text) (there value : Bool) → name ≡ other → there ≡ value → IsThere (content name) there → IsThere (content other) value
there_at content name other there value same is h = subst (λ (x : Text). IsThere (content x) value) same (subst (λ (b : Bool). IsThere (content name) b) is h)

pub found_here : (content : Text → Content) (n : ℕ) (folder name result : Text) (there : Bool) → 0 < n → name ≡ config_in folder → result ≡ config_in folder → there ≡ true → IsThere (content name) there
    → IsFound content n folder (Some result)
unfolding IsFound
found_here content zero folder name result there some same same_result is h = absurd (omega arith)
found_here content (suc n) folder name result there some same same_result is h = inl (there_at content name (config_in folder) there true same is h, ap Some same_result)

pub none_above : (content : Text → Content) (n : ℕ) (folder name top : Text) (there is_top : Bool) → 0 < n → name ≡ config_in folder → top ≡ top_in folder → there ≡ false → is_top ≡ true
    → IsThere (content name) there → IsThere (content top) is_top → IsFound content n folder None
unfolding IsFound
none_above content zero folder name top there is_top some same same_top is is_topmost h t = absurd (omega arith)
none_above content (suc n) folder name top there is_top some same same_top is is_topmost h t =
    inr (inl (there_at content name (config_in folder) there false same is h, there_at content top (top_in folder) is_top true same_top is_topmost t, refl))

pub found_above : (content : Text → Content) (n : ℕ) (folder name top up : Text) (there is_top : Bool) (found : Option Text) → name ≡ config_in folder → top ≡ top_in folder → up ≡ folder ++ codes "../"
    → there ≡ false → is_top ≡ false → IsThere (content name) there → IsThere (content top) is_top → IsFound content n up found → IsFound content (suc n) folder found
unfolding IsFound
found_above content n folder name top up there is_top found same same_top above is not_top h t more =
    inr (inr (there_at content name (config_in folder) there false same is h, there_at content top (top_in folder) is_top false same_top not_top t, subst (λ (x : Text). IsFound content n x found) above more))

pub nothing_left : (content : Text → Content) (n : ℕ) (folder : Text) → n ≡ 0 → IsFound content n folder None
unfolding IsFound
nothing_left content n folder none = subst (λ (k : ℕ). IsFound content k folder None) (sym none) refl
