mod Setting
