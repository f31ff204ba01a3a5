-- Laws of a set-back call: turned down, or done.
pub mod SettingBack
