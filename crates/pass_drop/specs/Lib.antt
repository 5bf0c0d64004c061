pub mod Objects
pub mod Parts
pub mod BanTruncateCascade
pub mod BanTruncateCascadeLaws
pub mod Others
