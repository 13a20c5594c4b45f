use Rattle.ca_rule.proofs.SettingsRead.{matched}
use Rattle.ca_rule.proofs.table.settings.SettingValues.of_line.Goals as goal

pub returns : goal.returns
returns c = λ n. record {
  states_are = matched _ _ (c.setting.ensures n);
  neighbourhood_is = matched _ _ (c.setting-2.ensures n);
  symmetry_is = matched _ _ (c.setting-3.ensures n);
}
